-- The test of each range is the rule's.
use Rattle.std.proofs.Common.{Bool, take, ◌∙◌, arith, rules, tests}
use Rattle.std.proofs.lemmas.Grind.{common_steps}
use Rattle.std.proofs.lemmas.Iterator.{YieldsList-from_slice}
use Rattle.std.proofs.lemmas.Iterator.Search.{any_from_yields_List}
use Rattle.rules.specs.Snapshots.{is_remote}
use Rattle.volume.specs.Volumes.{volume_says}
use Rattle.volume.specs.declared.snapshot.LogRange.{LogRange}
use Rattle.volume.specs.Snapshots.{range_says}
use Rattle.viewcalls.proofs.CheckLaws.{any_listed}
use Rattle.viewcalls.proofs.any_remote.Goals as goal

pub returns : goal.returns
returns c =
    let ranges = take c.args.len c.args.path in
    let passes : LogRange → Bool = λ x. is_remote (volume_says c.args.v) (range_says x) in
    any_from_yields_List passes _ _ c.any.result c.any.ensures.ran (YieldsList-from_slice ranges (grind (arith, common_steps))) (λ x b q k. search (rules, tests)) ∙ any_listed passes ranges
