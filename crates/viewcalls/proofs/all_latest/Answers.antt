-- The test of each range is the rule's.
use Rattle.std.proofs.Common.{Bool, take, ◌∙◌, arith, rules, tests}
use Rattle.std.proofs.lemmas.Grind.{common_steps}
use Rattle.std.proofs.lemmas.Iterator.{YieldsList-from_slice}
use Rattle.std.proofs.lemmas.Iterator.Search.{all_from_yields_List}
use Rattle.volume.specs.Volumes.{maybe_lsn_says, volume_says}
use Rattle.volume.specs.declared.snapshot.LogRange.{LogRange}
use Rattle.volume.specs.Snapshots.{range_says}
use Rattle.volume.proofs.PathLaws.{all_listed}
use Rattle.viewcalls.specs.Checks.{latest_by}
use Rattle.viewcalls.proofs.all_latest.Goals as goal

pub returns : goal.returns
returns c =
    let ranges = take c.args.len c.args.path in
    let passes : LogRange → Bool = λ x. latest_by (volume_says c.args.v) (maybe_lsn_says c.args.head) (range_says x) in
    all_from_yields_List passes _ _ c.all.result c.all.ensures.ran (YieldsList-from_slice ranges (grind (arith, common_steps))) (λ x b q k. search (rules, tests)) ∙ all_listed passes ranges
