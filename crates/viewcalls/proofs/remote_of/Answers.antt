-- The sync point by its two cases.
use Rattle.std.proofs.Common.{sym, ap, Option}
use Rattle.volume.specs.declared.volume.SyncPoint.{SyncPoint}
use Rattle.rules.specs.Snapshots.{remote_of}
use Rattle.volume.specs.Volumes.{sync_says}
use Rattle.viewcalls.proofs.remote_of.Goals as goal

pub returns-in-Some : goal.returns-in-Some
returns-in-Some c = sym (ap (λ (y : Option SyncPoint). remote_of (sync_says y)) c.in-Some.is)
