-- Stores field by field write the bytes of the whole: the last two stores are one store of both, and so on down to the first.
use Rattle.std.proofs.Common.{◌≡◌, ℕ, suc, ◌+◌, ◌≤◌, List, ◌∷◌, ◌++◌, length, sym, refl, ap, ◌∙◌, ap₂, arith, length-append, Option as Maybe, Some, None}
use mathlib.Core.Option.{Option, none, some}
use Rattle.octets.specs.Bytes.{bytes_of, put}
use Rattle.octets.proofs.Numbers.{length_bytes_of}
use Rattle.rules.specs.Records as rules
use Rattle.rules.proofs.TableLaws.{missing, option_same}
use Rattle.volume.specs.Volumes.{pending_says}
use Rattle.volume.specs.declared.volume.PendingCommit.{PendingCommit}
use Rattle.layout.specs.Codecs.{number, optional}
use Rattle.layout.specs.Records.{sync_bytes, pending_bytes, volume_bytes}
use Rattle.layout.proofs.PlaceLaws.{pair_stored, there_stored, length_stored}

-- ---- the number of bytes of each part

length_mark : (w : Option ℕ) → length ((optional (number 8)).spell w) ≡ 9
length_mark none = refl
length_mark (some n) = ap suc (length_bytes_of 8 n)

length_point : (p : rules.SyncPoint) → length (sync_bytes.spell p) ≡ 17
unfolding sync_bytes
length_point p = omega (arith, length-append (bytes_of 8 p.remote) ((optional (number 8)).spell p.watermark), length_bytes_of 8 p.remote, length_mark p.watermark)

length_sync : (y : Option rules.SyncPoint) → length ((optional sync_bytes).spell y) ≡ 18
unfolding sync_bytes
length_sync none = refl
length_sync (some p) = ap suc (length_point p)

length_commit : (p : rules.Pending) → length p.hash ≡ 32 → length (pending_bytes.spell p) ≡ 48
unfolding pending_bytes
length_commit p h =
    omega (arith, length-append (bytes_of 8 p.local) (bytes_of 8 p.commit ++ p.hash), length-append (bytes_of 8 p.commit) p.hash, length_bytes_of 8 p.local, length_bytes_of 8 p.commit)

length_pending : (q : Option rules.Pending) → ((p : rules.Pending) → q ≡ some p → length p.hash ≡ 32) → length ((optional pending_bytes).spell q) ≡ 49
unfolding pending_bytes
length_pending none h = refl
length_pending (some p) h = ap suc (length_commit p (h p refl))

pub length_volume : (v : rules.Volume) → length v.vid ≡ 16 → length v.local ≡ 16 → length v.remote ≡ 16 → ((p : rules.Pending) → v.pending ≡ some p → length p.hash ≡ 32)
    → length (volume_bytes.spell v) ≡ 117
unfolding volume_bytes
length_volume v lv ll lr lh =
    let ys = (optional sync_bytes).spell v.sync in
    let ps = (optional pending_bytes).spell v.pending in
    let l1 : length (ys ++ ps) ≡ 67 = length-append ys ps ∙ ap₂ ◌+◌ (length_sync v.sync) (length_pending v.pending lh) in
    let l2 : length (v.remote ++ (ys ++ ps)) ≡ 83 = length-append v.remote (ys ++ ps) ∙ ap₂ ◌+◌ lr l1 in
    let l3 : length ((0 ∷ v.local) ++ (v.remote ++ (ys ++ ps))) ≡ 100 = length-append (0 ∷ v.local) (v.remote ++ (ys ++ ps)) ∙ ap₂ ◌+◌ (ap suc ll) l2 in
    length-append (0 ∷ v.vid) ((0 ∷ v.local) ++ (v.remote ++ (ys ++ ps))) ∙ ap₂ ◌+◌ (ap suc lv) l3

-- the hash of a pending commit is the one that its value holds
pub long_hash : (q : Maybe PendingCommit) → ((p : PendingCommit) → q ≡ Some p → length p.hash ≡ 32) → (r : rules.Pending) → pending_says q ≡ some r → length r.hash ≡ 32
long_hash None l r e = absurd (missing refl e)
long_hash (Some p) l r e = ap (λ (x : rules.Pending). length x.hash) (sym (option_same e)) ∙ l p refl

-- ---- the stores

module _ (at : ℕ) (s t : List ℕ) (flag : t ≡ put at (bytes_of 1 1) s) where
  pub mark_stored : (u : List ℕ) (n : ℕ) → at + 9 ≤ length s → u ≡ put (at + 1) (bytes_of 8 n) t → u ≡ put at ((optional (number 8)).spell (some n)) s
  mark_stored u n h e = there_stored (number 8) n at s t u (omega (arith, length_bytes_of 8 n)) flag e

  pub sync_stored : (u w : List ℕ) (p : rules.SyncPoint) → at + 18 ≤ length s
      → u ≡ put (at + 1) (bytes_of 8 p.remote) t → w ≡ put (at + 9) ((optional (number 8)).spell p.watermark) u → w ≡ put at ((optional sync_bytes).spell (some p)) s
  unfolding sync_bytes
  sync_stored u w p h e f =
      let lt : length t ≡ length s = length_stored at (bytes_of 1 1) s t (omega (arith, length_bytes_of 1 1)) flag in
      let lr = length_bytes_of 8 p.remote in
      there_stored sync_bytes p at s t w (omega (arith, length_point p)) flag
      (pair_stored (at + 1) (at + 9) (bytes_of 8 p.remote) ((optional (number 8)).spell p.watermark) t u w (omega arith) (omega (arith, length_mark p.watermark)) e f)

  pub pending_stored : (u w x : List ℕ) (p : rules.Pending) → at + 49 ≤ length s → length p.hash ≡ 32
      → u ≡ put (at + 1) (bytes_of 8 p.local) t → w ≡ put (at + 9) (bytes_of 8 p.commit) u → x ≡ put (at + 17) p.hash w → x ≡ put at ((optional pending_bytes).spell (some p)) s
  unfolding pending_bytes
  pending_stored u w x p h l e f g =
      let lt : length t ≡ length s = length_stored at (bytes_of 1 1) s t (omega (arith, length_bytes_of 1 1)) flag in
      let ll = length_bytes_of 8 p.local in
      let lc = length_bytes_of 8 p.commit in
      let lu : length u ≡ length t = length_stored (at + 1) (bytes_of 8 p.local) t u (omega arith) e in
      there_stored pending_bytes p at s t x (omega (arith, length_commit p l)) flag
      (pair_stored (at + 1) (at + 9) (bytes_of 8 p.local) (bytes_of 8 p.commit ++ p.hash) t u x (omega arith) (omega (arith, length-append (bytes_of 8 p.commit) p.hash)) e
      (pair_stored (at + 9) (at + 17) (bytes_of 8 p.commit) p.hash u w x (omega arith) (omega arith) f g))

module _ (at : ℕ) (v : rules.Volume) (s a b c d e f g : List ℕ) (h : at + 117 ≤ length s) where
  pub volume_stored : length v.vid ≡ 16 → length v.local ≡ 16 → length v.remote ≡ 16 → ((p : rules.Pending) → v.pending ≡ some p → length p.hash ≡ 32)
      → a ≡ put at (bytes_of 1 0) s
      → b ≡ put (at + 1) v.vid a
      → c ≡ put (at + 17) (bytes_of 1 0) b
      → d ≡ put (at + 18) v.local c
      → e ≡ put (at + 34) v.remote d
      → f ≡ put (at + 50) ((optional sync_bytes).spell v.sync) e
      → g ≡ put (at + 68) ((optional pending_bytes).spell v.pending) f
      → g ≡ put at (volume_bytes.spell v) s
  unfolding bytes_of volume_bytes
  volume_stored lv ll lr lh ea eb ec ed ee ef eg =
      let ly = length_sync v.sync in
      let lp = length_pending v.pending lh in
      let key : b ≡ put at (0 ∷ v.vid) s = pair_stored at (at + 1) (bytes_of 1 0) v.vid s a b refl (omega arith) ea eb in
      let lb : length b ≡ length s = length_stored at (0 ∷ v.vid) s b (omega arith) key in
      let local : d ≡ put (at + 17) (0 ∷ v.local) b = pair_stored (at + 17) (at + 18) (bytes_of 1 0) v.local b c d (omega arith) (omega arith) ec ed in
      let ld : length d ≡ length s = length_stored (at + 17) (0 ∷ v.local) b d (omega arith) local ∙ lb in
      let le : length e ≡ length s = length_stored (at + 34) v.remote d e (omega arith) ee ∙ ld in
      let ys = (optional sync_bytes).spell v.sync in
      let ps = (optional pending_bytes).spell v.pending in
      let l1 : length (ys ++ ps) ≡ 67 = length-append ys ps ∙ ap₂ ◌+◌ ly lp in
      let l2 : length (v.remote ++ (ys ++ ps)) ≡ 83 = length-append v.remote (ys ++ ps) ∙ ap₂ ◌+◌ lr l1 in
      let l3 : length ((0 ∷ v.local) ++ (v.remote ++ (ys ++ ps))) ≡ 100 = length-append (0 ∷ v.local) (v.remote ++ (ys ++ ps)) ∙ ap₂ ◌+◌ (ap suc ll) l2 in
      pair_stored at (at + 17) (0 ∷ v.vid) ((0 ∷ v.local) ++ (v.remote ++ (ys ++ ps))) s b g (omega arith) (omega arith) key
      (pair_stored (at + 17) (at + 34) (0 ∷ v.local) (v.remote ++ (ys ++ ps)) b d g (omega arith) (omega arith) local
      (pair_stored (at + 34) (at + 50) v.remote (ys ++ ps) d e g (omega arith) (omega arith) ee
      (pair_stored (at + 50) (at + 68) ys ps e f g (omega arith) (omega arith) ef eg)))
