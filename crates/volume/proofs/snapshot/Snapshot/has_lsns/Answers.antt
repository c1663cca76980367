-- The test of each range is the rule's. Assumes nothing.
use Rattle.std.proofs.Common.{◌≡◌, Bool, length, take, ◌∙◌, arith, rules, tests}
use Rattle.std.proofs.lemmas.Iterator.{YieldsList-from_slice, YieldsList-from_take}
use Rattle.std.proofs.lemmas.Iterator.Search.{all_from_yields_List}
use Rattle.rules.specs.Arguments.{range_lsns, snapshot_lsns}
use Rattle.volume.specs.declared.snapshot.LogRange.{LogRange}
use Rattle.volume.specs.Snapshots.{range_says}
use Rattle.volume.proofs.PathLaws.{all_listed, said}
use Rattle.volume.proofs.SnapshotLaws.{places}
use Rattle.volume.proofs.snapshot.Snapshot.has_lsns.Goals as goal

abbrev passes : LogRange → Bool
passes r = range_lsns (range_says r)

pub returns : goal.returns
unfolding snapshot_lsns
returns c =
    let s = c.args.self in
    let l : length s.path ≡ 8 = places s _ c.well_formed.0 in
    all_from_yields_List passes _ _ c.all.result c.all.ensures.ran (YieldsList-from_take s.len (YieldsList-from_slice s.path (cc)) (cc)) (λ x b q k. search (rules, tests))
    ∙ all_listed passes (take s.len s.path)
    ∙ said range_lsns s.path s.len (omega arith)
