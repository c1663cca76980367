-- The rule of changes read where its code tells cases apart: an LSN 0, and a head above the base or not. Assumes nothing.
use Rattle.std.proofs.Common.{◌≡◌, ℕ, ◌+◌, ◌<◌, ◌≤◌, true, false, refl, ap, ap₂, le-ltb, lt-ltb, Option as Maybe, Some, None, Result, Ok, Err}
use mathlib.Core.Option.{Option, none, some}
use Rattle.basics.specs.Answers.{Answer, refused, done}
use Rattle.basics.specs.Numbers.{counts}
use Rattle.basics.specs.Refusals.{number_of}
use Rattle.basics.specs.declared.refusal.Refusal.{Refusal}
use Rattle.basics.proofs.RefusalLaws.{one_refusal}
use Rattle.rules.specs.Lists.{given}
use Rattle.rules.specs.Sync.{changed, changes}
use Rattle.volume.specs.declared.volume.LsnRange.{LsnRange}
use Rattle.volume.specs.Volumes.{changes_says}

module _ (base head : Option ℕ) where
  pub base_zero : given counts base ≡ false → refused 1 ≡ changes base head
  unfolding changes
  base_zero h = rw h

  pub head_zero : given counts base ≡ true → given counts head ≡ false → refused 1 ≡ changes base head
  unfolding changes
  head_zero h k = rw (h, k)

  pub past_zero : (z : Answer (Option (ℕ × ℕ))) (b : Option ℕ) → base ≡ b → given counts base ≡ true → given counts head ≡ true → z ≡ changed b head → z ≡ changes base head
  unfolding changes
  past_zero z b e h k p = rw (h, k) (rw e p)

module _ (b h : ℕ) where
  pub below : b < h → done (some (b + 1, h)) ≡ changed (some b) (some h)
  unfolding changed
  below l = rw (lt-ltb b h l)

  pub not_below : h ≤ b → done none ≡ changed (some b) (some h)
  unfolding changed
  not_below l = rw (le-ltb b h l)

-- two answers that say the same are the same
pub one_answer : (r q : Result (Maybe LsnRange) Refusal) → changes_says r ≡ changes_says q → r ≡ q
one_answer (Err n) (Err m) e = let p : number_of n ≡ number_of m = cc in ap (λ (x : Refusal). Err x) (one_refusal n m p)
one_answer (Err n) (Ok (Some b)) e = cc
one_answer (Err n) (Ok None) e = cc
one_answer (Ok (Some a)) (Err m) e = cc
one_answer (Ok (Some a)) (Ok (Some b)) e =
    let z : ◌≡◌ {A = ℕ × ℕ} (a.start.0, a.end.0) (b.start.0, b.end.0) = cc in
    let p : a.start.0 ≡ b.start.0 = ap (λ (x : ℕ × ℕ). x.0) z in
    let q : a.end.0 ≡ b.end.0 = ap (λ (x : ℕ × ℕ). x.1) z in
    ap₂ (λ (m n : ℕ). Ok (Some (record { start = record { 0 = m }; end = record { 0 = n } }))) p q
one_answer (Ok (Some a)) (Ok None) e = cc
one_answer (Ok None) (Err m) e = cc
one_answer (Ok None) (Ok (Some b)) e = cc
one_answer (Ok None) (Ok None) e = refl
