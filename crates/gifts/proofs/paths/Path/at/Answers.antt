-- The place of k is that of `left` in the runs that are left.
use mathlib.Core.Path.{refl, sym, ◌∙◌, ap}
use native.Mathlib.Omega.{arith}
use Rattle.gifts.specs.Paths.{place_at}
use Rattle.gifts.proofs.PathLaws.{runs_8, runs_end, run_holds, run_passed}
use Rattle.gifts.proofs.paths.Path.at.Goals as goal

pub loop-run-init : goal.loop-run-init
loop-run-init c = refl

pub overflow_add-result : goal.overflow_add-result
overflow_add-result c = omega (arith, c.saturating_sub-n.ensures)

pub returns-then-left-n : goal.returns-then-left-n
returns-then-left-n c =
    let l = runs_8 c.args.self _ c.well_formed.0 in
    sym (c.loop-run.invariant ∙ run_holds c.args.self.runs c.loop-run.run-index (omega arith) c.saturating_sub-n.result c.loop-run.left c.saturating_sub-n.ensures (omega arith))

pub loop-run-preserved : goal.loop-run-preserved
loop-run-preserved c =
    let l = runs_8 c.args.self _ c.well_formed.0 in
    c.loop-run.invariant ∙ run_passed c.args.self.runs c.loop-run.run-index (omega arith) c.saturating_sub-n.result c.loop-run.left c.saturating_sub-n.ensures (omega arith)

pub returns : goal.returns
returns c =
    let l = runs_8 c.args.self _ c.well_formed.0 in
    sym (c.loop-run.invariant ∙ ap (place_at c.loop-run.left) (runs_end c.args.self.runs c.loop-run.run-index (omega arith)))
