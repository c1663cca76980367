-- Identifiers of a last byte are in form; a slot is set by one store; heads of snapshots and commits in bytes.
use Rattle.std.proofs.Common.{◌≡◌, ℕ, ◌+◌, ◌<◌, ◌≤◌, true, List, [], ◌∷◌, ◌++◌, length, get_or, sym, refl, ap, ◌∙◌, arith, lt-ltb, Option as Maybe}
use mathlib.Core.Option.{Option, none, some}
use Rattle.octets.specs.Bytes.{bytes_of, part, put}
use Rattle.octets.proofs.Numbers.{length_bytes_of}
use Rattle.octets.proofs.Places as P
use Rattle.rules.specs.Records.{Commit}
use Rattle.rules.specs.Lists.{all}
use Rattle.rules.specs.Forms.{bytes_form, id_form}
use Rattle.volume.specs.declared.snapshot.Snapshot.{Snapshot}
use Rattle.basics.specs.declared.logref.LogRef.{LogRef}
use Rattle.volume.specs.Snapshots.{snapshot_says, laid, head_says, head_of}
use Rattle.layout.specs.Records.{commit_bytes}
use Rattle.arguments.specs.Snapshots.{snapshot_in}
use Rattle.arguments.proofs.ArgLaws.{whole}
use Rattle.arguments.proofs.SnapshotLaws.{arg_says}
use Rattle.callvalues.specs.Values.{id_of, shortly, commit_head}

-- ---- identifiers

pub id_form_lem : (b : ℕ) → b < 256 → id_form (id_of b) ≡ true
unfolding id_of bytes_form all
id_form_lem b h = rw (lt-ltb b 256 h)

-- ---- slots

one_byte : bytes_of 1 1 ≡ 1 ∷ []
unfolding bytes_of
one_byte = refl

-- the byte that says so, and the snapshot behind it
pub slot_stored : (at : ℕ) (ys s t u : List ℕ) → length ys ≡ 262 → at + 263 ≤ length s → t ≡ put at (bytes_of 1 1) s → u ≡ put (at + 1) ys t → u ≡ put at (1 ∷ ys) s
slot_stored at ys s t u l h e f =
    f ∙ ap (put (at + 1) ys) e ∙ P.put_next at 1 262 (bytes_of 1 1) ys s (length_bytes_of 1 1) l (omega arith) ∙ ap (λ (x : List ℕ). put at (x ++ ys) s) one_byte

-- ---- heads

-- of a snapshot in bytes
pub head_in_lem : (b : List ℕ) (s : Snapshot) (h : Maybe LogRef) → s ≡ laid (snapshot_in b) → head_says h ≡ head_of (snapshot_says s) → shortly (head_says h) ≡ shortly (head_of (snapshot_in b))
head_in_lem b s h e f = ap shortly (f ∙ ap head_of (arg_says b s e))

-- of a commit in bytes
pub commit_in_lem : (b log : List ℕ) (n : ℕ) → length b ≡ 722 → log ≡ (commit_bytes.read (part 0 722 b)).log → n ≡ (commit_bytes.read (part 0 722 b)).lsn
    → ◌≡◌ {A = Option (ℕ × ℕ)} (some (get_or log 15 0, n)) (commit_head (some (commit_bytes.read b)))
commit_in_lem b log n l e f =
    ap (λ (x : List ℕ). some (get_or x 15 0, n)) e ∙ ap (λ (x : ℕ). some (get_or (commit_bytes.read (part 0 722 b)).log 15 0, x)) f
    ∙ ap (λ (x : List ℕ). commit_head (some (commit_bytes.read x))) (whole 722 b l)
