-- The call, with all three identifiers asked and a place for the volume.
use Rattle.std.proofs.Common.{ap, ◌∙◌}
use Rattle.basics.specs.Answers.{code}
use Rattle.rules.specs.Records.{Volume}
use Rattle.rules.specs.Tables.{Table}
use Rattle.layout.specs.Records.{volume_bytes}
use Rattle.layout.specs.Lent.{after}
use Rattle.callstep.proofs.Snaps.{open_same}
use Rattle.callstep.proofs.calls.open.Goals as goal

pub returns : goal.returns
returns c = let a = c.args in let e = open_same a.volumes.now a.commits.now a.vid a.local a.remote c.asked.result c.asked-2.result c.asked-3.result c.asked.ensures c.asked-2.ensures c.asked-3.ensures in record { value = c.«open».ensures.value ∙ ap code e; volumes_after = c.«open».ensures.volumes_after ∙ ap (after volume_bytes (λ (x : Volume × Table Volume). x.1) a.volumes.now) e }
