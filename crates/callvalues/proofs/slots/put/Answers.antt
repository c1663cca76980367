-- The byte, and the snapshot behind it.
use Rattle.std.proofs.Common.{arith}
use Rattle.callvalues.specs.Slots.{slot_set}
use Rattle.callvalues.proofs.Values.{slot_stored}
use Rattle.callvalues.proofs.slots.put.Goals as goal

pub returns : goal.returns
unfolding slot_set
returns c = slot_stored _ _ c.args.slots.now _ _ c.snapshot_write.ensures.snapshot_len (omega (arith, c.requires)) c.store8.ensures c.snapshot_write.ensures.s_after
