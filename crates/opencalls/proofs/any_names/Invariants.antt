-- The invariant: the volumes from i on decide.
use Rattle.std.proofs.Common.{◌≡◌, ◌||◌, drop}
use Rattle.rules.specs.Lists.{any}
use Rattle.rules.specs.Tables.{same_id}
use Rattle.layout.specs.Tables.{volumes_in}
use Rattle.opencalls.proofs.any_names.Given as goal

abbrev pub invariant-loop-i : goal.invariant-loop-i
invariant-loop-i l =
    any (λ v. same_id l.log v.local || same_id l.log v.remote) (volumes_in l.volumes).rows
    ≡ any (λ v. same_id l.log v.local || same_id l.log v.remote) (drop l.i (volumes_in l.volumes).rows)
