-- The call's number is the reply, and what it leaves is left.
use Rattle.savecalls.proofs.Ends.{replied}
use Rattle.boundary.proofs.savecall.sigatuda_save.Goals as goal

pub returns : goal.returns
returns c = let whole = replied c.args.commits.now c.args.checkpoints.now c.args.index.now c.args.presence.now c.args.out.now _ _ _ _ _ _ _ c.by_number.result c.save.ensures c.by_number.ensures in
    record { value = whole.0; leaves = whole.1 }
