-- Where there is no segment there is no page to take away; else the windows that stand at the set's place are the pages of the record.
use mathlib.Core.Path.{sym, ap, ◌∙◌}
use native.Mathlib.Omega.{arith}
use borrow.Author.Rules.{rules}
use Rattle.pageset.specs.Sets.{rising}
use Rattle.rules.specs.Records.{Pages}
use Rattle.setbytes.specs.Laid.{windows_at}
use Rattle.setbytes.proofs.SetLaws.{length_windows}
use Rattle.masks.specs.Masks.{less_masks}
use Rattle.commits.specs.Places.{commit_at}
use Rattle.gifts.proofs.ApartLaws.{stand, row_ups}
use Rattle.gifts.proofs.HeldLaws.{less_missing}
use Rattle.gifts.proofs.take_away.Goals as goal

pub returns-then-not-has_segment_at : goal.returns-then-not-has_segment_at
returns-then-not-has_segment_at c =
    sym (less_missing (windows_at c.args.n c.args.at c.args.commits.now) (commit_at c.args.commits.now c.args.i).segment c.args.masks.now (sym c.has_segment_at.ensures ∙ c.if-not-has_segment_at.true) (omega (arith, length_windows c.args.n c.args.at c.args.commits.now)))

pub less-requires : goal.less-requires
less-requires c = let has = sym c.has_segment_at.ensures ∙ c.if-not-has_segment_at.false in
    let r = c.row-from in
    let n = c.count_read-m in record { n_in_bounds = (c.requires.n_in_bounds.0, omega arith, c.requires.n_in_bounds.1, omega arith, search rules); s_value = ((c.requires.n_in_bounds.2, ap (rising 0) (sym (stand c.args.commits.now c.requires.commits_value.0 c.args.i c.requires.commits_value.1 r.result r.ensures.0 r.ensures.1 has n.result n.ensures 0 0)) ∙ row_ups c.args.commits.now c.requires.commits_value.0 c.args.i c.requires.commits_value.1 r.result r.ensures.0 r.ensures.1 has n.result n.ensures 0 0)) }

pub returns : goal.returns
returns c =
    let has = sym c.has_segment_at.ensures ∙ c.if-not-has_segment_at.false in
    let r = c.row-from in
    let n = c.count_read-m in
    c.less.ensures ∙ ap (λ (u : Pages). less_masks (windows_at c.args.n c.args.at c.args.commits.now) u c.args.masks.now) (sym (stand c.args.commits.now c.requires.commits_value.0 c.args.i c.requires.commits_value.1 r.result r.ensures.0 r.ensures.1 has n.result n.ensures 0 0))
