-- A snapshot in bytes by the number that its check answers: under 0 the rule's own 1, 2 and 3 pass as well, since what is read of bytes has at most 8 ranges. Assumes nothing.
use Rattle.std.proofs.Common.{◌≡◌, ℕ, Bool, true, false, leb, List, length, sym, refl, ap, ◌∙◌, arith, le-leb}
use Rattle.basics.specs.Answers.{Answer, refused, done, code, ask, ◌>>◌}
use Rattle.basics.proofs.AskLaws.{refuses}
use Rattle.rules.specs.Records.{Snapshot}
use Rattle.rules.specs.Arguments.{snapshot_lsns, snapshot_order, snapshot_form}
use Rattle.arguments.specs.Snapshots.{snapshot_in, snapshot_formed}
use Rattle.arguments.proofs.SnapshotLaws.{in_few}
use Rattle.resultlists.specs.Snapshots.{snapshot_given}

-- the three checks
abbrev chain : Snapshot → Bool → Bool → Bool → Answer Snapshot
chain s b c d = ask b 1 >> (ask c 2 >> (ask d 3 >> done s))

passed : {A : Type 0} (s : Snapshot) (b c d : Bool) (rule : Answer A) → 0 ≡ code (chain s b c d) → (ask b 1 >> (ask c 2 >> rule)) ≡ rule
passed s true true d rule e = refl
passed s true false d rule e = absurd (omega arith)
passed s false c d rule e = absurd (omega arith)

given_done : (s : Snapshot) (b c d : Bool) → 0 ≡ code (chain s b c d) → chain s b c d ≡ done s
given_done s true true true e = refl
given_done s true true false e = absurd (omega arith)
given_done s true false d e = absurd (omega arith)
given_done s false c d e = absurd (omega arith)

module _ (b : List ℕ) where
  -- each number of the code, in its turn
  pub code_1 : snapshot_lsns (snapshot_in b) ≡ false → 1 ≡ code (snapshot_given b)
  unfolding snapshot_given
  code_1 e = rw e

  pub code_2 : snapshot_lsns (snapshot_in b) ≡ true → snapshot_order (snapshot_in b) ≡ false → 2 ≡ code (snapshot_given b)
  unfolding snapshot_given
  code_2 e f = rw (e, f)

  pub code_formed : snapshot_lsns (snapshot_in b) ≡ true → snapshot_order (snapshot_in b) ≡ true → (d : Bool) → snapshot_formed b ≡ d → code (ask d 3 >> done (snapshot_in b)) ≡ code (snapshot_given b)
  unfolding snapshot_given
  code_formed e f d g = rw (e, f, g)

module _ (b : List ℕ) (n : ℕ) (e : n ≡ code (snapshot_given b)) where
  -- a number other than 0 refuses
  pub given_refused : (n ≡ 0 → ⊥) → snapshot_given b ≡ refused n
  unfolding snapshot_given
  given_refused z = refuses (snapshot_given b) n e z

  module _ (z : n ≡ 0) where
    -- under 0 the snapshot is what the bytes spell
    pub given_read : snapshot_given b ≡ done (snapshot_in b)
    unfolding snapshot_given
    given_read = given_done (snapshot_in b) (snapshot_lsns (snapshot_in b)) (snapshot_order (snapshot_in b)) (snapshot_formed b) (sym z ∙ e)

    -- and a rule's own 1, 2 and 3 pass
    pub given_passed : {A : Type 0} (rule : Answer A) → (ask (snapshot_lsns (snapshot_in b)) 1 >> (ask (snapshot_order (snapshot_in b)) 2 >> (ask (snapshot_form (snapshot_in b)) 3 >> rule))) ≡ rule
    unfolding snapshot_given snapshot_form
    given_passed rule =
        passed (snapshot_in b) (snapshot_lsns (snapshot_in b)) (snapshot_order (snapshot_in b)) (snapshot_formed b) (ask (leb (length (snapshot_in b).path) 8) 3 >> rule) (sym z ∙ e)
        ∙ ap (λ (t : Bool). ask t 3 >> rule) (le-leb (length (snapshot_in b).path) 8 (in_few b))
