-- The call.
use Rattle.std.proofs.Common.{ap, ◌∙◌}
use Rattle.basics.specs.Answers.{code}
use Rattle.rules.specs.Records.{Volume}
use Rattle.rules.specs.Tables.{Table}
use Rattle.layout.specs.Records.{volume_bytes}
use Rattle.layout.specs.Lent.{after}
use Rattle.callstep.proofs.Snaps.{pull_same}
use Rattle.callstep.proofs.calls.pull.Goals as goal

pub returns : goal.returns
returns c = let a = c.args in let e = pull_same a.volumes.now a.commits.now a.vid c.id_of.result c.id_of.ensures in record { value = c.number_or_zero.ensures ∙ c.sync.ensures.value ∙ ap code e; volumes_after = c.sync.ensures.volumes_after ∙ ap (after volume_bytes (λ (x : Table Volume). x) a.volumes.now) e }
