-- What each value of the code says: the volume, sync point, pending commit and LSN of the rules, and document 01's number of an answer.
use Rattle.std.specs.Prelude.{ℕ, Option as Maybe, Some, None, Result, Ok, Err}
use Rattle.std.proofs.Math.Option.{Option, none, some}
use Rattle.basics.specs.Answers.{Answer, refused, done}
use Rattle.basics.specs.Refusals.{number_of}
use Rattle.basics.specs.declared.lsn.Lsn.{Lsn}
use Rattle.basics.specs.declared.refusal.Refusal.{Refusal}
use Rattle.rules.specs.Records as rules
use Rattle.volume.specs.declared.volume.SyncPoint.{SyncPoint}
use Rattle.volume.specs.declared.volume.PendingCommit.{PendingCommit}
use Rattle.volume.specs.declared.volume.LsnRange.{LsnRange}
use Rattle.volume.specs.declared.volume.Volume.{Volume}

-- an LSN that may be missing
abbrev pub maybe_lsn_says : Maybe Lsn → Option ℕ
maybe_lsn_says None = none
maybe_lsn_says (Some n) = some n.0

-- a sync point that may be missing, with its watermark
abbrev pub sync_says : Maybe SyncPoint → Option rules.SyncPoint
sync_says None = none
sync_says (Some p) = some (record { remote = p.remote.0; watermark = maybe_lsn_says p.watermark })

-- a pending commit that may be missing
abbrev pub pending_says : Maybe PendingCommit → Option rules.Pending
pending_says None = none
pending_says (Some p) = some (record { local = p.local.0; commit = p.commit.0; hash = p.hash })

-- a volume
abbrev pub volume_says : Volume → rules.Volume
volume_says v = record { vid = v.vid; local = v.local; remote = v.remote; sync = sync_says v.sync; pending = pending_says v.pending }

-- changes: a range of LSNs, nothing, or a number
abbrev pub changes_says : Result (Maybe LsnRange) Refusal → Answer (Option (ℕ × ℕ))
changes_says (Err r) = refused (number_of r)
changes_says (Ok (Some c)) = done (some (c.start.0, c.end.0))
changes_says (Ok None) = done none
