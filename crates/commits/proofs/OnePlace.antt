-- A lookup has one answer: since keys strictly rise, no record stands at two places, so two places that a promise allows are the same.
use Rattle.std.proofs.Common.{◌≡◌, ℕ, zero, suc, Bool, true, List, [], ◌∷◌, sym, refl, ap, ◌∙◌, arith, Option as Maybe, Some, None}
use Prim.Native.Nat.{Ordering}
use mathlib.Core.Option.{Option, some}
use Rattle.basics.specs.Orders.{is_lt}
use Rattle.basics.proofs.OrderLaws.{Lawful}
use Rattle.rules.specs.Lists.{all}
use Rattle.rules.specs.Records.{Commit}
use Rattle.rules.specs.Tables.{in_order}
use Rattle.rules.proofs.TableLaws.{clash, and_fst, and_snd}
use Rattle.layout.specs.Tables.{commits_in, commits_ok}
use Rattle.rows.specs.Lookups.{nth}
use Rattle.rows.proofs.Rows.{formed_up}
use Rattle.rows.proofs.Finds.{row_nth}
use Rattle.rows.proofs.Tables.{commits}
use Rattle.commits.specs.Places.{commit_at, PlaceOf}

all_nth : {A : Type 0} (f : A → Bool) (l : List A) (i : ℕ) (x : A) → all f l ≡ true → nth i l ≡ some x → f x ≡ true
unfolding all
all_nth f [] i x e h = let z : ◌≡◌ {A = ℕ} 0 1 = cc in absurd (omega arith)
all_nth f (y ∷ l) zero x e h = let z : y ≡ x = cc in ap f (sym z) ∙ and_fst (f y) (all f l) e
all_nth f (y ∷ l) (suc i) x e h = all_nth f l i x (and_snd (f y) (all f l) e) h

module _ {R K : Type 0} (key : R → K) (order : K → K → Ordering) (L : Lawful order) where
  -- the first record stands nowhere among the others
  not_later : (x y : R) (l : List R) (i : ℕ) → in_order key order (y ∷ l) ≡ true → some y ≡ some x → nth i l ≡ some x → ⊥
  unfolding in_order
  not_later x y l i up e h =
      let z : y ≡ x = cc in
      let f : R → Bool = λ r. is_lt (order (key y) (key r)) in
      clash (all_nth f l i x (and_fst (all f l) (in_order key order l) up) h) (ap (λ (r : R). is_lt (order (key y) (key r))) (sym z) ∙ ap is_lt (L.self (key y)))

  -- of records in key order each stands at one place
  nth_once : (l : List R) (i j : ℕ) (x : R) → in_order key order l ≡ true → nth i l ≡ some x → nth j l ≡ some x → i ≡ j
  unfolding in_order
  nth_once [] i j x up e h = let z : ◌≡◌ {A = ℕ} 0 1 = cc in absurd (omega arith)
  nth_once (y ∷ l) zero zero x up e h = refl
  nth_once (y ∷ l) zero (suc j) x up e h = absurd (not_later x y l j up e h)
  nth_once (y ∷ l) (suc i) zero x up e h = absurd (not_later x y l i up h e)
  nth_once (y ∷ l) (suc i) (suc j) x up e h =
      ap suc (nth_once l i j x (and_snd (all (λ r. is_lt (order (key y) (key r))) l) (in_order key order l) up) e h)

-- two places of the same record, or of none
pub one_place : (t : List ℕ) → commits_ok t ≡ true → (o : Option Commit) (p q : Maybe ℕ) → PlaceOf t o p → PlaceOf t o q → p ≡ q
one_place t ok o (Some i) (Some j) a b =
    let e : nth i (commits_in t).rows ≡ some (commit_at t i) = row_nth commits t i a.inside in
    let h : nth j (commits_in t).rows ≡ some (commit_at t i) = row_nth commits t j b.inside ∙ b.says ∙ sym a.says in
    ap Some (nth_once _ _ commits.lawful (commits_in t).rows i j (commit_at t i) (formed_up commits t ok) e h)
one_place t ok o (Some i) None a b = let z : ◌≡◌ {A = ℕ} 0 1 = cc (a.says, b.says) in absurd (omega arith)
one_place t ok o None (Some j) a b = let z : ◌≡◌ {A = ℕ} 0 1 = cc (a.says, b.says) in absurd (omega arith)
one_place t ok o None None a b = refl
