-- A turn of the walk. The place of a number says which commit has that number, what is left of the path from it on, and that it joins those met before the next number.
use Rattle.std.proofs.Common.{Some, None}
use Rattle.std.specs.Prelude.{◌≡◌, ℕ, zero, suc, ◌+◌, ◌<◌, ◌≤◌, Bool, true, false, cond, List, [], ◌∷◌, map, length, drop}
use mathlib.Core.Path.{refl, sym, ap, ◌∙◌}
use mathlib.Core.Option.{none, some}
use native.Mathlib.Omega.{arith}
use native.Mathlib.Numerals.{add-one}
use native.Mathlib.Decide.{dec_lt}
use Rattle.rules.specs.Records.{Pages, Commit}
use Rattle.rules.specs.Pages.{is_empty}
use Rattle.rules.specs.Write.{pages_of}
use Rattle.rules.specs.Walk.{gift}
use Rattle.rows.specs.Lookups.{nth}
use Rattle.commits.specs.Places.{commit_at}
use Rattle.gifts.specs.Paths.{place_at, Below, commits_at, before}
use Rattle.masks.specs.Masks.{given}
use Rattle.gifts.specs.Steps.{step_of, step_from, GiftIn}

-- ---- the place of a number

no_place : {P : Type 0} (i : ℕ) → None ≡ Some i → P
no_place i e = let z : ◌≡◌ {A = ℕ} 0 1 = cc in absurd (omega arith)

a_place : {P : Type 0} (i : ℕ) → Some i ≡ None → P
a_place i e = let z : ◌≡◌ {A = ℕ} 0 1 = cc in absurd (omega arith)

place_front : (k i : ℕ) (ps : List ℕ) → place_at k ps ≡ Some i → drop k ps ≡ i ∷ drop (suc k) ps
place_front k i [] e = no_place i e
place_front zero i (p ∷ ps) e = let z : p ≡ i = cc in ap (λ (x : ℕ). x ∷ ps) z
place_front (suc k) i (p ∷ ps) e = place_front k i ps e

pub place_left : (k i : ℕ) (ps : List ℕ) → place_at k ps ≡ Some i → drop k ps ≡ i ∷ drop (k + 1) ps
place_left k i ps e = rw add-one (place_front k i ps e)

pub place_few : (k i : ℕ) (ps : List ℕ) → place_at k ps ≡ Some i → k < length ps
place_few k i [] e = no_place i e
place_few zero i (p ∷ ps) e = omega arith
place_few (suc k) i (p ∷ ps) e = let h = place_few k i ps e in omega arith

pub place_below : (b k i : ℕ) (ps : List ℕ) → Below b ps → place_at k ps ≡ Some i → i < b
place_below b k i [] h e = no_place i e
place_below b zero i (p ∷ ps) h e = let z : p ≡ i = cc in omega (arith, h.0)
place_below b (suc k) i (p ∷ ps) h e = place_below b k i ps h.1 e

place_nth : {A : Type 0} (f : ℕ → A) (k i : ℕ) (ps : List ℕ) → place_at k ps ≡ Some i → nth k (map f ps) ≡ some (f i)
place_nth f k i [] e = no_place i e
place_nth f zero i (p ∷ ps) e = let z : p ≡ i = cc in ap (λ (x : ℕ). some (f x)) z
place_nth f (suc k) i (p ∷ ps) e = place_nth f k i ps e

-- the place of a number past m is one of those past m
pub place_later : (m j : ℕ) (ps : List ℕ) → place_at (m + j) ps ≡ place_at j (drop m ps)
place_later zero j ps = let e : 0 + j ≡ j = omega arith in ap (λ (n : ℕ). place_at n ps) e
place_later (suc m) j [] = refl
place_later (suc m) j (p ∷ ps) = let e : suc m + j ≡ suc (m + j) = omega arith in ap (λ (n : ℕ). place_at n (p ∷ ps)) e ∙ place_later m j ps

pub place_none : (k : ℕ) (ps : List ℕ) → place_at k ps ≡ None → drop k ps ≡ []
place_none k [] e = go k
  where
    go : (k : ℕ) → drop {A = ℕ} k [] ≡ []
    go zero = refl
    go (suc k) = refl
place_none zero (p ∷ ps) e = a_place p e
place_none (suc k) (p ∷ ps) e = place_none k ps e

-- no commit has a number past the last
none_nth : {A : Type 0} (f : ℕ → A) (k n : ℕ) (ps : List ℕ) → place_at k ps ≡ None → k ≤ n → nth n (map f ps) ≡ none
none_nth f k n [] e h = refl
none_nth f zero n (p ∷ ps) e h = a_place p e
none_nth f (suc k) zero (p ∷ ps) e h = absurd (omega arith)
none_nth f (suc k) (suc n) (p ∷ ps) e h = none_nth f k n ps e (omega arith)

-- ---- the masks of a step's gift

pub gift_in_none : (t left : List ℕ) (g : Pages) → GiftIn t None left g
gift_in_none t left g i e = no_place i e

pub gift_in : (t : List ℕ) (i : ℕ) (left : List ℕ) (g : Pages) → given (pages_of (commit_at t i).segment) left ≡ g → GiftIn t (Some i) left g
gift_in t i left g e j q = let z : i ≡ j = cc in ap (λ (k : ℕ). given (pages_of (commit_at t k).segment) left) (sym z) ∙ e

module _ (t ps : List ℕ) where
  -- ---- those met before a number

  pub before_next : (k i : ℕ) → place_at k ps ≡ Some i → before (k + 1) (commits_at t ps) ≡ commit_at t i ∷ before k (commits_at t ps)
  before_next k i e = rw (add-one, place_nth (commit_at t) k i ps e)

  before_past : (k n : ℕ) → place_at k ps ≡ None → k ≤ n → before (suc n) (commits_at t ps) ≡ before n (commits_at t ps)
  before_past k n e h = rw (none_nth (commit_at t) k n ps e h)

  -- past the last there are no more
  pub before_all : (k n : ℕ) → place_at k ps ≡ None → k ≤ n → before n (commits_at t ps) ≡ before k (commits_at t ps)
  before_all k zero e h = let z : 0 ≡ k = omega arith in ap (λ (m : ℕ). before m (commits_at t ps)) z
  before_all k (suc n) e h = go (dec_lt n k) (before_all k n e)
    where
      go : Dec (n < k) → (k ≤ n → before n (commits_at t ps) ≡ before k (commits_at t ps)) → before (suc n) (commits_at t ps) ≡ before k (commits_at t ps)
      go (yes l) r = let z : suc n ≡ k = omega arith in ap (λ (m : ℕ). before m (commits_at t ps)) z
      go (no l) r = before_past k n e (omega arith) ∙ r (omega arith)

  -- ---- the step

  module _ (count k : ℕ) where
    abbrev gave : ℕ → Pages
    gave i = gift count (before k (commits_at t ps)) (commit_at t i)

    pub step_end : place_at k ps ≡ None → step_from t count ps k ≡ (record { at = None; next = k }, [])
    unfolding step_from step_of
    step_end e = rw (place_none k ps e)

    pub step_here : (i : ℕ) → place_at k ps ≡ Some i → is_empty (gave i) ≡ false → step_from t count ps k ≡ (record { at = Some i; next = k + 1 }, gave i)
    unfolding step_from step_of
    step_here i e h = rw (place_left k i ps e, h)

    pub step_on : (i : ℕ) → place_at k ps ≡ Some i → is_empty (gave i) ≡ true → step_from t count ps k ≡ step_from t count ps (k + 1)
    unfolding step_from step_of
    step_on i e h =
        let q = before_next k i e in
        ap (λ (l : List ℕ). step_of t count (before k (commits_at t ps)) l k) (place_left k i ps e)
        ∙ ap (λ (b : Bool). cond b (step_of t count (commit_at t i ∷ before k (commits_at t ps)) (drop (k + 1) ps) (k + 1)) (record { at = Some i; next = k + 1 }, gave i)) h
        ∙ ap (λ (l : List Commit). step_of t count l (drop (k + 1) ps) (k + 1)) (sym q)
