-- What the form of a volume asks of the bytes at a place, field by field, as the code tests it: reserved bytes are 0, LSNs that are there are not 0, and what
-- is missing is zero. Identifiers and the hash are any bytes.
use Rattle.std.proofs.Common.{◌≡◌, ℕ, ◌+◌, ◌≤◌, Bool, true, false, ◌&&◌, eqb, List, length, refl, ap, ◌∙◌, ap₂, arith, le-ltb, lt-ltb}
use mathlib.Core.Option.{Option}
use mathlib.Core.Bool.{and-true, and_assoc}
use Rattle.octets.specs.Bytes.{be, part, AreBytes}
use Rattle.basics.specs.Numbers.{counts}
use Rattle.rules.specs.Lists.{given}
use Rattle.rules.specs.Records.{Id, SyncPoint, Pending}
use Rattle.rules.specs.Forms.{lsn_form, id_form, hash_form, sync_form, pending_form, volume_form}
use Rattle.layout.specs.Codecs.{number, reserved, optional, pair, spelled, in_form}
use Rattle.layout.specs.Values.{id_bytes}
use Rattle.layout.specs.Records.{hash_bytes, sync_bytes, pending_bytes, volume_bytes}
use Rattle.layout.proofs.SpellLaws.{Steady, number_steady, raw_steady, reserved_steady, optional_steady, pair_steady}
use Rattle.layout.proofs.PlaceLaws.{same_form, lsn_at, raw_at, reserved_at, pair_at}

-- an LSN that code has read
module _ (n m : ℕ) (e : n ≡ m) where
  pub lsn_zero : n ≡ 0 → counts m ≡ false
  lsn_zero z = le-ltb 0 m (omega arith)

  pub lsn_there : (n ≡ 0 → ⊥) → counts m ≡ true
  lsn_there z = lt-ltb 0 m (omega arith)

-- the tests of what follows the remote log, the local log and the vid
abbrev states : Option SyncPoint × Option Pending → Bool
states x = given sync_form x.0 && given pending_form x.1

abbrev remote : Id × (Option SyncPoint × Option Pending) → Bool
remote x = id_form x.0 && states x.1

abbrev local : Id × (Id × (Option SyncPoint × Option Pending)) → Bool
local x = id_form x.0 && remote x.1

grouped : (a b c d e : Bool) → a && b && c && d && e ≡ a && (b && (c && (d && e)))
grouped true true true d e = refl
grouped true true false d e = refl
grouped true false c d e = refl
grouped false b c d e = refl

key_steady : Steady (reserved id_bytes)
key_steady = reserved_steady id_bytes (raw_steady 16)

sync_steady : Steady (optional sync_bytes)
unfolding sync_bytes
sync_steady = optional_steady sync_bytes (pair_steady (number 8) (optional (number 8)) (number_steady 8) (optional_steady (number 8) (number_steady 8)))

module _ (s : List ℕ) (ab : AreBytes s) (at : ℕ) where
  -- an identifier behind a reserved byte
  id_asked : at + 17 ≤ length s → in_form (reserved id_bytes) id_form (part at 17 s) ≡ eqb (be (part at 1 s)) 0
  id_asked h =
      reserved_at s ab at id_bytes id_form h
      ∙ ap (λ (t : Bool). eqb (be (part at 1 s)) 0 && t) (raw_at s ab (at + 1) 16 (omega arith))
      ∙ and-true (eqb (be (part at 1 s)) 0)

module _ (s : List ℕ) (ab : AreBytes s) (at : ℕ) where
  -- a sync point: its remote LSN, its watermark
  pub sync_asked : at + 17 ≤ length s
      → in_form sync_bytes sync_form (part at 17 s) ≡ counts (be (part at 8 s)) && in_form (optional (number 8)) (given lsn_form) (part (at + 8) 9 s)
  unfolding in_form spelled sync_bytes sync_form
  sync_asked h =
      pair_at s ab at (number 8) (optional (number 8)) lsn_form (given lsn_form) (at + 8) (number_steady 8) refl (omega arith)
      ∙ ap (λ (t : Bool). t && in_form (optional (number 8)) (given lsn_form) (part (at + 8) 9 s)) (lsn_at s ab at (omega arith))

  -- a pending commit: its two LSNs
  pub pending_asked : at + 48 ≤ length s → in_form pending_bytes pending_form (part at 48 s) ≡ counts (be (part at 8 s)) && counts (be (part (at + 8) 8 s))
  unfolding in_form spelled pending_bytes pending_form
  pending_asked h =
      let e : at + 8 + 8 ≡ at + 16 = omega arith in
      same_form (pair (number 8) (pair (number 8) hash_bytes)) _ (λ x. lsn_form x.0 && (lsn_form x.1.0 && hash_form x.1.1)) (part at 48 s)
      (λ x. and_assoc (lsn_form x.0) (lsn_form x.1.0) (hash_form x.1.1))
      ∙ pair_at s ab at (number 8) (pair (number 8) hash_bytes) lsn_form (λ x. lsn_form x.0 && hash_form x.1) (at + 8) (number_steady 8) refl (omega arith)
      ∙ ap₂ ◌&&◌ (lsn_at s ab at (omega arith))
      (pair_at s ab (at + 8) (number 8) hash_bytes lsn_form hash_form (at + 16) (number_steady 8) e (omega arith)
      ∙ ap₂ ◌&&◌ (lsn_at s ab (at + 8) (omega arith)) (raw_at s ab (at + 16) 32 (omega arith))
      ∙ and-true (counts (be (part (at + 8) 8 s))))

  -- a volume: its reserved bytes, its sync point, its pending commit
  pub volume_asked : at + 117 ≤ length s
      → in_form volume_bytes volume_form (part at 117 s)
      ≡ eqb (be (part at 1 s)) 0
      && (eqb (be (part (at + 17) 1 s)) 0 && (in_form (optional sync_bytes) (given sync_form) (part (at + 50) 18 s) && in_form (optional pending_bytes) (given pending_form) (part (at + 68) 49 s)))
  unfolding in_form spelled sync_bytes pending_bytes volume_bytes volume_form
  volume_asked h =
      let logs : at + 17 + 17 ≡ at + 34 = omega arith in
      let sync : at + 34 + 16 ≡ at + 50 = omega arith in
      let pending : at + 50 + 18 ≡ at + 68 = omega arith in
      same_form (pair (reserved id_bytes) (pair (reserved id_bytes) (pair id_bytes (pair (optional sync_bytes) (optional pending_bytes))))) _ (λ x. id_form x.0 && local x.1) (part at 117 s)
      (λ x. grouped (id_form x.0) (id_form x.1.0) (id_form x.1.1.0) (given sync_form x.1.1.1.0) (given pending_form x.1.1.1.1))
      ∙ pair_at s ab at (reserved id_bytes) (pair (reserved id_bytes) (pair id_bytes (pair (optional sync_bytes) (optional pending_bytes)))) id_form local (at + 17) key_steady refl (omega arith)
      ∙ ap₂ ◌&&◌ (id_asked s ab at (omega arith))
      (pair_at s ab (at + 17) (reserved id_bytes) (pair id_bytes (pair (optional sync_bytes) (optional pending_bytes))) id_form remote (at + 34) key_steady logs (omega arith)
      ∙ ap₂ ◌&&◌ (id_asked s ab (at + 17) (omega arith))
      (pair_at s ab (at + 34) id_bytes (pair (optional sync_bytes) (optional pending_bytes)) id_form states (at + 50) (raw_steady 16) sync (omega arith)
      ∙ ap₂ ◌&&◌ (raw_at s ab (at + 34) 16 (omega arith))
      (pair_at s ab (at + 50) (optional sync_bytes) (optional pending_bytes) (given sync_form) (given pending_form) (at + 68) sync_steady pending (omega arith))))
