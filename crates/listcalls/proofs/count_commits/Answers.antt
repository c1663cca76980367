-- The invariant: n commits have the first i ranges, at most 65535 each. Assumes nothing.
use Rattle.std.proofs.Common.{◌≡◌, ℕ, ◌+◌, length, refl, ap, ◌∙◌, arith, rules}
use Rattle.listcalls.specs.Runs.{first_commits}
use Rattle.listcalls.proofs.RangeLaws.{run_number, run_few}
use Rattle.listcalls.proofs.PathLaws.{turn_count}
use Rattle.listcalls.proofs.count_commits.Goals as goal

pub loop-i-init : goal.loop-i-init
loop-i-init c = (refl, omega arith)

pub offset_bounds-path-i : goal.offset_bounds-path-i
offset_bounds-path-i c = omega arith

pub bounds-path-i : goal.bounds-path-i
bounds-path-i c = omega arith

pub places_of-run-requires : goal.places_of-run-requires
places_of-run-requires c = c.requires.0

pub overflow_sub-n : goal.overflow_sub-n
overflow_sub-n c = omega arith

pub overflow_add-n : goal.overflow_add-n
overflow_add-n c =
    let few = run_few c.args.commits.now c.requires.0 _ c.places_of-run.result.from c.places_of-run.result.to c.places_of-run.ensures in
    omega arith

pub loop-i-preserved : goal.loop-i-preserved
loop-i-preserved c =
    let long : length c.args.path ≡ 8 = search rules in
    let few = run_few c.args.commits.now c.requires.0 _ c.places_of-run.result.from c.places_of-run.result.to c.places_of-run.ensures in
    let size = long in (
      ap (λ (m : ℕ). c.loop-i.n + m) (run_number c.args.commits.now c.requires.0 _ c.places_of-run.result.from c.places_of-run.result.to c.places_of-run.ensures) ∙ turn_count c.args.commits.now c.args.path c.loop-i.i _ c.loop-i.n c.loop-i.invariant.0 (omega arith),
      omega arith,
    )

pub returns : goal.returns
returns c =
    let e : c.loop-i.i ≡ c.args.len = omega arith in
    let n = ap (λ (k : ℕ). length (first_commits c.args.commits.now k c.args.path)) e in
    (c.loop-i.invariant.0 ∙ n, omega arith)
