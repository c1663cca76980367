-- The three ways out are the three cases of the flag.
use Rattle.layout.specs.Records.{pending_bytes}
use Rattle.rules.specs.Forms.{pending_form}
use Rattle.layout.proofs.PlaceLaws.{flag_none, flag_wrong, flag_there}
use Rattle.volumebytes.proofs.pending.pending_form.Goals as goal

pub returns-then-flag-eq0 : goal.returns-then-flag-eq0
unfolding pending_bytes
returns-then-flag-eq0 c =
    let t = c.args in
    flag_none t.s.now (λ j. (c.type_inv.s j).fits) t.at pending_bytes pending_form c.requires _ c.load8-flag.ensures _ c.if-flag-eq0.true c.all_zero.ensures

pub returns-then-flag-ne1 : goal.returns-then-flag-ne1
unfolding pending_bytes
returns-then-flag-ne1 c =
    let t = c.args in
    flag_wrong t.s.now (λ j. (c.type_inv.s j).fits) t.at pending_bytes pending_form c.requires _ c.load8-flag.ensures c.if-flag-eq0.false c.if-flag-ne1.true

pub returns : goal.returns
unfolding pending_bytes
returns c =
    let t = c.args in
    flag_there t.s.now (λ j. (c.type_inv.s j).fits) t.at pending_bytes pending_form c.requires _ c.load8-flag.ensures _ c.if-flag-ne1.false c.commit_form.ensures
