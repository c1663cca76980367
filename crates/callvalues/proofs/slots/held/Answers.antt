-- The bytes behind it.
use Rattle.callvalues.specs.Slots.{held}
use Rattle.callvalues.proofs.slots.held.Goals as goal

pub returns : goal.returns
unfolding held
returns c = c.load_all.ensures
