-- The commit that a row spells where the row begins.
use Rattle.std.proofs.Common.{◌≡◌, ℕ, ◌+◌, ◌*◌, Bool, true, false, List, length, sym, refl, ap, ◌∙◌, ap₂, arith}
use mathlib.Core.Option.{Option, none, some}
use Rattle.octets.specs.Bytes.{part}
use Rattle.octets.specs.Order.{lex, is_equal}
use Rattle.octets.proofs.Places as P
use Rattle.rules.specs.Records.{Id, Commit}
use Rattle.rules.specs.Tables.{same_id}
use Rattle.rules.specs.Lists.{is_some}
use Rattle.commit.specs.declared.Presence.{Presence}
use Rattle.commit.specs.declared.Presence.TheVariants.{Missing, Given}
use Rattle.layout.specs.Records.{commit_bytes}
use Rattle.commitbytes.specs.Laid.{presence}
use Rattle.rules.proofs.Facts.{id_is}
use Rattle.commitbytes.proofs.CommitLaws.{commit_at_lem}
use Rattle.commits.specs.Places.{commit_at}

-- ---- what may be missing

module _ {A : Type 0} where
  given_some : (o : Option A) → presence o ≡ Given → true ≡ is_some o
  given_some none e = let z : ◌≡◌ {A = ℕ} 0 1 = cc in absurd (omega arith)
  given_some (some x) e = refl

  missing_none : (o : Option A) → presence o ≡ Missing → false ≡ is_some o
  missing_none none e = refl
  missing_none (some x) e = let z : ◌≡◌ {A = ℕ} 0 1 = cc in absurd (omega arith)

-- ---- row i, which begins at a place

module _ (t : List ℕ) (i at : ℕ) (p : at ≡ 2 + i * 722) where
  -- what is read there is the commit that the row spells
  pub row_read : {A : Type 0} (f : Commit → A) (x : A) → x ≡ f (commit_bytes.read (part at 722 t)) → x ≡ f (commit_at t i)
  row_read f x e = e ∙ ap (λ (n : ℕ). f (commit_bytes.read (part n 722 t))) p

  -- its log
  pub row_log : (log : Id) (r : Bool) → length log ≡ 16 → r ≡ is_equal (lex (part 0 16 log) (part (at + 1) 16 t)) → r ≡ same_id log (commit_at t i).log
  row_log log r l e =
      row_read (λ (c : Commit). same_id log c.log) r
      (e ∙ id_is (part 0 16 log) (part (at + 1) 16 t) ∙ ap₂ same_id (P.part_whole 16 log l) (sym (ap (λ (c : Commit). c.log) (commit_at_lem t at))))

  -- its segment, there or missing
  module _ (x : Presence) (e : x ≡ presence (commit_bytes.read (part at 722 t)).segment) where
    pub row_given : x ≡ Given → true ≡ is_some (commit_at t i).segment
    row_given h = row_read (λ (c : Commit). is_some c.segment) true (given_some (commit_bytes.read (part at 722 t)).segment (sym e ∙ h))

    pub row_missing : x ≡ Missing → false ≡ is_some (commit_at t i).segment
    row_missing h = row_read (λ (c : Commit). is_some c.segment) false (missing_none (commit_bytes.read (part at 722 t)).segment (sym e ∙ h))
