-- A volume of the rules as the value that the code holds.
use Rattle.std.specs.Prelude.{ℕ, Option as Maybe, Some, None}
use Rattle.std.proofs.Math.Option.{Option, none, some}
use Rattle.basics.specs.declared.lsn.Lsn.{Lsn}
use Rattle.basics.specs.Says.{lsn_laid}
use Rattle.rules.specs.Records as rules
use Rattle.volume.specs.declared.volume.SyncPoint.{SyncPoint}
use Rattle.volume.specs.declared.volume.PendingCommit.{PendingCommit}
use Rattle.volume.specs.declared.volume.Volume.{Volume}

-- an LSN that may be missing
abbrev pub mark_laid : Option ℕ → Maybe Lsn
mark_laid none = None
mark_laid (some n) = Some (lsn_laid n)

-- a sync point
abbrev pub point_laid : rules.SyncPoint → SyncPoint
point_laid p = record { remote = lsn_laid p.remote; watermark = mark_laid p.watermark }

-- a sync point that may be missing
abbrev pub sync_laid : Option rules.SyncPoint → Maybe SyncPoint
sync_laid none = None
sync_laid (some p) = Some (point_laid p)

-- a pending commit that may be missing
abbrev pub pending_laid : Option rules.Pending → Maybe PendingCommit
pending_laid none = None
pending_laid (some p) = Some (record { local = lsn_laid p.local; commit = lsn_laid p.commit; hash = p.hash })

-- a volume
abbrev pub volume_laid : rules.Volume → Volume
volume_laid v = record {
  vid = v.vid;
  local = v.local;
  remote = v.remote;
  sync = sync_laid v.sync;
  pending = pending_laid v.pending;
}
