-- The loop looks for index q: what is left of the windows has the mask of them all. Assumes nothing.
use Rattle.std.proofs.Common.{arith}
use Rattle.pageset.proofs.WalkLaws.{found, passed, missed}
use Rattle.pageset.proofs.form.mask_at.Goals as goal

pub returns-then-w-q : goal.returns-then-w-q
returns-then-w-q c = found _ c.loop-w.w-index c.args.q c.loop-w.invariant (omega arith) c.if-w-q.true

pub loop-w-preserved : goal.loop-w-preserved
loop-w-preserved c = passed _ c.loop-w.w-index c.args.q c.loop-w.invariant (omega arith) c.if-w-q.false

pub returns : goal.returns
returns c = missed _ c.loop-w.w-index c.args.q c.loop-w.invariant (omega arith)
