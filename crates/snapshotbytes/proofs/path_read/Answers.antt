-- The invariant: the first i ranges are read, and zero stands past them.
use borrow.Author.Rules.{rules}
use Rattle.std.specs.Prelude.{◌≡◌, ℕ, ◌++◌, length, drop, set, replicate}
use mathlib.Core.Path.{ap, ◌∙◌}
use native.Mathlib.Omega.{arith}
use Rattle.octets.specs.Tab.{tab}
use Rattle.octets.proofs.Tabs.{tab_none, tab_more}
use Rattle.volume.specs.declared.snapshot.LogRange.{LogRange}
use Rattle.volume.specs.Snapshots.{no_range}
use Rattle.snapshotbytes.proofs.Reading.{range_at, path_read, empty_path}
use Rattle.snapshotbytes.proofs.path_read.Goals as goal

pub loop-i-init : goal.loop-i-init
loop-i-init c =
    let a = c.args in
    let e = empty_path c.empty-empty.result 0 c.empty-empty.ensures in
    (ap length e, e ∙ tab_none (range_at a.s.now a.at) (replicate 8 no_range))

pub loop-i-preserved : goal.loop-i-preserved
loop-i-preserved c =
    let a = c.args in
    let l = c.loop-i in
    let f = range_at a.s.now a.at in
    (search rules, ap (λ (r : LogRange). set l.path l.i r) c.range_read.ensures ∙ tab_more f (replicate 8 no_range) l.path no_range l.i l.invariant.1 (omega arith))

pub returns : goal.returns
returns c =
    let a = c.args in
    let l = c.loop-i in
    let e : l.i ≡ a.n = omega arith in
    l.invariant.1 ∙ ap (λ (i : ℕ). tab (range_at a.s.now a.at) i ++ drop i (replicate 8 no_range)) e ∙ path_read a.s.now a.at a.n
