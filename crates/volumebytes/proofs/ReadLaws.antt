-- What the bytes of a volume at a place are read as, field by field, and that the code's value and the rules' volume determine each other.
use Rattle.std.proofs.Common.{◌≡◌, ℕ, ◌+◌, List, sym, refl, ap, ◌∙◌, ap₂, arith, Option as Maybe}
use mathlib.Core.Option.{Option, none, some}
use Rattle.volume.specs.declared.volume.SyncPoint.{SyncPoint}
use Rattle.octets.specs.Bytes.{be, part}
use Rattle.rules.specs.Records as rules
use Rattle.layout.specs.Codecs.{number, reserved, optional, pair}
use Rattle.layout.specs.Values.{id_bytes}
use Rattle.layout.specs.Records.{hash_bytes, sync_bytes, pending_bytes, volume_bytes}
use Rattle.layout.proofs.PlaceLaws.{pair_read, reserved_read, optional_read}
use Rattle.volume.specs.declared.volume.PendingCommit.{PendingCommit}
use Rattle.volumebytes.specs.Laid.{sync_laid, pending_laid, volume_laid}

-- the sync point and the pending commit, and a volume of its parts
abbrev States : Type 0
States = Option rules.SyncPoint × Option rules.Pending

abbrev whole : rules.Id → rules.Id → rules.Id → States → rules.Volume
whole vid local remote x = record { vid = vid; local = local; remote = remote; sync = x.0; pending = x.1 }

module _ (s : List ℕ) (at : ℕ) where
  -- a sync point
  pub sync_read : (bt : ℕ) → at + 8 ≡ bt → sync_bytes.read (part at 17 s) ≡ record { remote = be (part at 8 s); watermark = (optional (number 8)).read (part bt 9 s) }
  unfolding sync_bytes
  sync_read bt e = ap (λ (x : ℕ × Option ℕ). record { remote = x.0; watermark = x.1 }) (pair_read s at (number 8) (optional (number 8)) bt e)

  -- a pending commit
  pub pending_read : (bt ct : ℕ) → at + 8 ≡ bt → at + 16 ≡ ct
      → pending_bytes.read (part at 48 s) ≡ record { local = be (part at 8 s); commit = be (part bt 8 s); hash = part ct 32 s }
  unfolding pending_bytes
  pending_read bt ct e f =
      ap (λ (x : ℕ × (ℕ × List ℕ)). record { local = x.0; commit = x.1.0; hash = x.1.1 }) (pair_read s at (number 8) (pair (number 8) hash_bytes) bt e)
      ∙ ap (λ (x : ℕ × List ℕ). record { local = be (part at 8 s); commit = x.0; hash = x.1 }) (pair_read s bt (number 8) hash_bytes ct (omega arith))

module _ (s : List ℕ) (at : ℕ) where
  -- a volume
  volume_read_lem : volume_bytes.read (part at 117 s)
      ≡ record { vid = part (at + 1) 16 s; local = part (at + 18) 16 s; remote = part (at + 34) 16 s; sync = (optional sync_bytes).read (part (at + 50) 18 s); pending = (optional pending_bytes).read (part (at + 68) 49 s) }
  unfolding sync_bytes pending_bytes volume_bytes
  volume_read_lem =
      ap (λ (x : rules.Id × (rules.Id × (rules.Id × States))). whole x.0 x.1.0 x.1.1.0 x.1.1.1)
      (pair_read s at (reserved id_bytes) (pair (reserved id_bytes) (pair id_bytes (pair (optional sync_bytes) (optional pending_bytes)))) (at + 17) refl)
      ∙ ap₂ (λ (v : rules.Id) (x : rules.Id × (rules.Id × States)). whole v x.0 x.1.0 x.1.1) (reserved_read s at id_bytes)
      (pair_read s (at + 17) (reserved id_bytes) (pair id_bytes (pair (optional sync_bytes) (optional pending_bytes))) (at + 34) (omega arith))
      ∙ ap₂ (λ (l : rules.Id) (x : rules.Id × States). whole (part (at + 1) 16 s) l x.0 x.1)
      (reserved_read s (at + 17) id_bytes ∙ ap (λ (n : ℕ). part n 16 s) local)
      (pair_read s (at + 34) id_bytes (pair (optional sync_bytes) (optional pending_bytes)) (at + 50) (omega arith))
      ∙ ap (whole (part (at + 1) 16 s) (part (at + 18) 16 s) (part (at + 34) 16 s)) (pair_read s (at + 50) (optional sync_bytes) (optional pending_bytes) (at + 68) (omega arith))
    where
      local : at + 17 + 1 ≡ at + 18
      local = omega arith

-- ---- a volume, read field by field

module _ (s : List ℕ) (at : ℕ) where
  pub volume_made : (vid local remote : List ℕ) (sync : Maybe SyncPoint) (pending : Maybe PendingCommit)
      → vid ≡ part (at + 1) 16 s
      → local ≡ part (at + 18) 16 s
      → remote ≡ part (at + 34) 16 s
      → sync ≡ sync_laid ((optional sync_bytes).read (part (at + 50) 18 s))
      → pending ≡ pending_laid ((optional pending_bytes).read (part (at + 68) 49 s))
      → record { vid = vid; local = local; remote = remote; sync = sync; pending = pending } ≡ volume_laid (volume_bytes.read (part at 117 s))
  volume_made vid local remote sync pending v l m y p = rw (v, l, m, y, p) (ap volume_laid (sym (volume_read_lem s at)))
