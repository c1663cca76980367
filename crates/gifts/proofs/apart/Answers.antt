-- Where there is no segment there is no window; else the first window read is the lowest and the last one the highest.
use mathlib.Core.Path.{sym, ◌∙◌}
use native.Mathlib.Omega.{arith}
use borrow.Author.Tests.{ltb-true}
use Rattle.commits.specs.Places.{commit_at}
use Rattle.gifts.proofs.ApartLaws.{clear_none, clear_empty, clear_above, clear_below}
use Rattle.gifts.proofs.apart.Goals as goal

pub returns-then-not-has_segment_at : goal.returns-then-not-has_segment_at
returns-then-not-has_segment_at c =
    λ z. clear_none (commit_at c.args.commits.now c.args.i).segment c.args.lo c.args.hi (sym c.has_segment_at.ensures ∙ c.if-not-has_segment_at.true)

pub returns-then-n-eq0 : goal.returns-then-n-eq0
returns-then-n-eq0 c =
    λ z. clear_empty c.args.commits.now c.requires.0 c.args.i c.requires.1 c.row-at.result c.row-at.ensures.0 c.row-at.ensures.1 (sym c.has_segment_at.ensures ∙ c.if-not-has_segment_at.false) c.count_read-n.result c.count_read-n.ensures c.args.lo c.args.hi c.if-n-eq0.true

pub returns-then-hi-load32 : goal.returns-then-hi-load32
returns-then-hi-load32 c =
    λ z. clear_above c.args.commits.now c.requires.0 c.args.i c.requires.1 c.row-at.result c.row-at.ensures.0 c.row-at.ensures.1 (sym c.has_segment_at.ensures ∙ c.if-not-has_segment_at.false) c.count_read-n.result c.count_read-n.ensures c.args.lo c.args.hi c.load32.result (omega (arith, c.if-n-eq0.false)) c.load32.ensures c.if-hi-load32.true

pub returns : goal.returns
returns c =
    λ z. clear_below c.args.commits.now c.requires.0 c.args.i c.requires.1 c.row-at.result c.row-at.ensures.0 c.row-at.ensures.1 (sym c.has_segment_at.ensures ∙ c.if-not-has_segment_at.false) c.count_read-n.result c.count_read-n.ensures c.args.lo c.args.hi c.load32-2.result (omega (arith, c.if-n-eq0.false)) c.load32-2.ensures (ltb-true _ _ z)
