-- Eight zero ranges stand past no range. Assumes nothing.
use Rattle.volume.specs.Snapshots.{laid}
use Rattle.volume.proofs.snapshot.Snapshot.empty.Goals as goal

pub returns : goal.returns
unfolding laid
returns c = rw c.zero-zero.ensures
