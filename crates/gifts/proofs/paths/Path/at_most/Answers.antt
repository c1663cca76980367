-- All places fit just where those of the runs that are left fit what is left of the room.
use Rattle.std.specs.Prelude.{ℕ, leb, List, length}
use mathlib.Core.Path.{refl, sym, ◌∙◌, ap}
use native.Mathlib.Omega.{arith}
use Rattle.gifts.proofs.PathLaws.{runs_8, runs_end, run_over, run_fits}
use borrow.Author.Tests.{le-leb}
use Rattle.gifts.proofs.paths.Path.at_most.Goals as goal

pub loop-run-init : goal.loop-run-init
loop-run-init c = refl

pub returns-then-left-n : goal.returns-then-left-n
returns-then-left-n c =
    let l = runs_8 c.args.self _ c.well_formed.0 in
    sym (c.loop-run.invariant ∙ run_over c.args.self.runs c.loop-run.run-index (omega arith) c.saturating_sub-n.result c.loop-run.left c.saturating_sub-n.ensures (omega arith))

pub loop-run-preserved : goal.loop-run-preserved
loop-run-preserved c =
    let l = runs_8 c.args.self _ c.well_formed.0 in
    c.loop-run.invariant ∙ run_fits c.args.self.runs c.loop-run.run-index (omega arith) c.saturating_sub-n.result c.loop-run.left c.saturating_sub-n.ensures (omega arith)

pub returns : goal.returns
returns c =
    let l = runs_8 c.args.self _ c.well_formed.0 in
    sym (c.loop-run.invariant ∙ ap (λ (l : List ℕ). leb (length l) c.loop-run.left) (runs_end c.args.self.runs c.loop-run.run-index (omega arith)) ∙ le-leb 0 c.loop-run.left (omega arith))
