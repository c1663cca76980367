-- Both round trips of a volume: the value and the rules' volume determine each other, and so do the value and its bytes. The bytes of a volume in form
-- spell it (`volume_held`), and bytes in form are those of the volume that they spell (`in_form_lem`).
use Rattle.std.proofs.Common.{◌≡◌, ℕ, ◌+◌, ◌≤◌, true, List, length, sym, refl, ap, ◌∙◌, ap₂, Option as Maybe, Some, None}
use mathlib.Core.Option.{Option, none, some}
use Rattle.volume.specs.declared.volume.SyncPoint.{SyncPoint}
use Rattle.basics.specs.declared.lsn.Lsn.{Lsn}
use Rattle.octets.specs.Bytes.{part, put}
use Rattle.octets.proofs.Places.{part_put_same, put_part}
use Rattle.rules.specs.Records as rules
use Rattle.rules.specs.Forms.{volume_form}
use Rattle.layout.specs.Codecs.{in_form}
use Rattle.layout.specs.Records.{sync_bytes, pending_bytes, volume_bytes}
use Rattle.layout.proofs.HoldLaws.{in_form_lem}
use Rattle.layout.proofs.FormHolds.{volume_held}
use Rattle.volume.specs.Volumes.{maybe_lsn_says, sync_says, pending_says, volume_says}
use Rattle.volume.specs.declared.volume.PendingCommit.{PendingCommit}
use Rattle.volume.specs.declared.volume.Volume.{Volume}
use Rattle.volumebytes.specs.Laid.{mark_laid, sync_laid, pending_laid, volume_laid}

-- ---- the rules' volume and the value

says_mark : (w : Option ℕ) → maybe_lsn_says (mark_laid w) ≡ w
says_mark none = refl
says_mark (some n) = refl

says_sync : (y : Option rules.SyncPoint) → sync_says (sync_laid y) ≡ y
says_sync none = refl
says_sync (some p) = ap (λ (w : Option ℕ). some (record { remote = p.remote; watermark = w })) (says_mark p.watermark)

says_pending : (q : Option rules.Pending) → pending_says (pending_laid q) ≡ q
says_pending none = refl
says_pending (some p) = refl

-- a volume of the rules is what its value says
pub says_laid : (v : rules.Volume) → volume_says (volume_laid v) ≡ v
says_laid v =
    ap₂ (λ (y : Option rules.SyncPoint) (q : Option rules.Pending). record { vid = v.vid; local = v.local; remote = v.remote; sync = y; pending = q })
    (says_sync v.sync) (says_pending v.pending)

laid_mark : (w : Maybe Lsn) → mark_laid (maybe_lsn_says w) ≡ w
laid_mark None = refl
laid_mark (Some n) = refl

laid_sync : (y : Maybe SyncPoint) → sync_laid (sync_says y) ≡ y
laid_sync None = refl
laid_sync (Some p) = ap (λ (w : Maybe Lsn). Some (record { remote = p.remote; watermark = w })) (laid_mark p.watermark)

laid_pending : (q : Maybe PendingCommit) → pending_laid (pending_says q) ≡ q
laid_pending None = refl
laid_pending (Some p) = refl

-- a value is the one of the volume that it says
laid_says : (v : Volume) → volume_laid (volume_says v) ≡ v
laid_says v =
    ap₂ (λ (y : Maybe SyncPoint) (p : Maybe PendingCommit). record { vid = v.vid; local = v.local; remote = v.remote; sync = y; pending = p }) (laid_sync v.sync) (laid_pending v.pending)

-- ---- the value and its bytes

size : volume_bytes.size ≡ 117
unfolding sync_bytes pending_bytes volume_bytes
size = refl

-- what was written is read
pub read_written : (at : ℕ) (s : List ℕ) (v : Volume) → at + 117 ≤ length s → volume_form (volume_says v) ≡ true
    → volume_laid (volume_bytes.read (part at 117 (put at (volume_bytes.spell (volume_says v)) s))) ≡ v
read_written at s v h f =
    let k = volume_held (volume_says v) f in
    ap (λ (b : List ℕ). volume_laid (volume_bytes.read b)) (part_put_same at 117 (volume_bytes.spell (volume_says v)) s (k.long ∙ size) h)
    ∙ ap volume_laid k.back
    ∙ laid_says v

-- what was read and is written again changes nothing
pub written_read : (at : ℕ) (s : List ℕ) → at + 117 ≤ length s → in_form volume_bytes volume_form (part at 117 s) ≡ true
    → put at (volume_bytes.spell (volume_says (volume_laid (volume_bytes.read (part at 117 s))))) s ≡ s
written_read at s h f =
    ap (λ (v : rules.Volume). put at (volume_bytes.spell v) s) (says_laid (volume_bytes.read (part at 117 s)))
    ∙ ap (λ (b : List ℕ). put at b s) (in_form_lem volume_bytes volume_form (part at 117 s) f).0
    ∙ put_part at 117 s h
