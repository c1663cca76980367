-- The three ways out are the three cases of the flag.
use Rattle.std.proofs.Common.{◌+◌, sym, ap, ◌∙◌, arith}
use Rattle.basics.specs.Numbers.{counts}
use Rattle.rules.specs.Forms.{lsn_form}
use Rattle.layout.specs.Codecs.{number}
use Rattle.layout.proofs.PlaceLaws.{flag_none, flag_wrong, flag_there, lsn_at}
use Rattle.volumebytes.proofs.sync.watermark_form.Goals as goal

pub returns-then-flag-eq0 : goal.returns-then-flag-eq0
returns-then-flag-eq0 c =
    flag_none c.args.s.now (λ j. (c.type_inv.s j).fits) c.args.at (number 8) lsn_form c.requires _ c.load8-flag.ensures _ c.if-flag-eq0.true c.all_zero.ensures

pub returns-then-flag-ne1 : goal.returns-then-flag-ne1
returns-then-flag-ne1 c =
    flag_wrong c.args.s.now (λ j. (c.type_inv.s j).fits) c.args.at (number 8) lsn_form c.requires _ c.load8-flag.ensures c.if-flag-eq0.false c.if-flag-ne1.true

pub returns : goal.returns
returns c =
    flag_there c.args.s.now (λ j. (c.type_inv.s j).fits) c.args.at (number 8) lsn_form c.requires _ c.load8-flag.ensures _ c.if-flag-ne1.false (ap counts c.load64.ensures ∙ sym (lsn_at c.args.s.now (λ j. (c.type_inv.s j).fits) (c.args.at + 1) (omega arith)))
