-- The byte at the slot.
use Rattle.std.proofs.Common.{refl}
use Rattle.callvalues.specs.Slots.{is_set}
use Rattle.callvalues.proofs.slots.is_set.Goals as goal

pub returns : goal.returns
unfolding is_set
returns c = refl
