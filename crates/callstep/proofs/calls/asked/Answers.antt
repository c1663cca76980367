-- The identifier, twice.
use Rattle.std.proofs.Common.{true}
use Rattle.callstep.proofs.calls.asked.Goals as goal

pub returns : goal.returns
returns c = λ i. record { asked = true; id = c.id_of-id.ensures i; spare = c.id_of-id.ensures i }
