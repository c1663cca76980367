-- The runs of the ranges passed are in their places, and empty ones past them.
use Rattle.gifts.proofs.PathLaws.{found_none, found_next, found_all, run_is}
use Rattle.std.specs.Prelude.{◌≡◌, ℕ, [], map, get_or, take, set, replicate}
use mathlib.Core.Path.{refl, ap, ◌∙◌, subst}
use borrow.Author.Rules.{rules}
use native.Mathlib.Omega.{arith}
use Rattle.octets.proofs.Tabs.{tab_none, tab_more}
use Rattle.table.specs.declared.Run.{Run}
use Rattle.volume.specs.declared.snapshot.LogRange.{LogRange}
use Rattle.volume.proofs.SnapshotLaws.{places}
use Rattle.volume.specs.Snapshots.{range_says}
use Rattle.commits.specs.Places.{RunOfRange}
use Rattle.gifts.specs.Paths.{run_of, no_run, PathOf}
use Rattle.gifts.proofs.paths.Path.of.Goals as goal

-- what an index past the array would read
abbrev past : LogRange
past = record { log = []; start = record { 0 = 0 }; end = record { 0 = 0 } }

pub loop-i-init : goal.loop-i-init
loop-i-init c = (refl, tab_none _ _, found_none c.args.commits.now range_says c.args.s.path past)

pub loop-i-preserved : goal.loop-i-preserved
loop-i-preserved c =
    let t = c.args.commits.now in
    let xs = c.args.s.path in
    let i = c.loop-i.i in
    let l = places c.args.s _ c.well_formed.1.0 in
    let r = c.range_run.result in
    let e : r ≡ run_of t (range_says (get_or xs i past)) = run_is t (range_says (get_or xs i past)) r c.range_run.ensures in (
      search rules,
      ap (λ (x : Run). set c.loop-i.runs i x) e ∙ tab_more (λ (k : ℕ). run_of t (range_says (get_or xs k past))) (replicate 8 no_run) c.loop-i.runs no_run i c.loop-i.invariant.1 (omega arith),
      found_next t range_says xs past i (omega arith) c.loop-i.invariant.2 (subst (λ (x : Run). RunOfRange t (range_says (get_or xs i past)) x.from x.to) e c.range_run.ensures),
    )

pub returns : goal.returns
returns c =
    let l = places c.args.s _ c.well_formed.1.0 in
    let e : c.loop-i.i ≡ c.args.s.len = omega arith in
    subst (λ (n : ℕ). PathOf c.args.commits.now (map range_says (take n c.args.s.path)) c.loop-i.runs) e
    (found_all c.args.commits.now range_says c.args.s.path past c.loop-i.i c.loop-i.runs c.requires.0 (omega arith) (omega arith) c.loop-i.invariant.1 c.loop-i.invariant.2)
