-- For code that goes through a list: what `all`, `any`, `put` and `in_order` are at a place of it. A loop's invariant is an equation such as
-- `all f l ≡ all f (drop i l)`; these are its steps. Key order is tested neighbour by neighbour, and a record is put behind all that are below it.
use Rattle.std.proofs.Common.{◌≡◌, ℕ, suc, ◌<◌, Bool, true, ◌&&◌, ◌||◌, List, [], ◌∷◌, ◌++◌, length, get_or, drop, sym, refl, ap, ◌∙◌, drop-cons}
use Prim.Native.Nat.{Ordering}
use Rattle.basics.specs.Orders.{is_lt}
use Rattle.rules.specs.Lists.{all, any}
use Rattle.rules.specs.Tables.{in_order, put}
use Rattle.basics.proofs.OrderLaws.{Lawful, equal, lt≢eq}
use Rattle.rules.proofs.TableLaws.{cases, orders, lt_of, and_fst, and_snd, and_both, all_weaken, clash}

module _ {A : Type 0} (f : A → Bool) (l : List A) (d : A) (i : ℕ) (h : i < length l) where
  pub all_step : all f (drop i l) ≡ f (get_or l i d) && all f (drop (suc i) l)
  unfolding all
  all_step = rw (drop-cons l i d h)

  pub any_step : any f (drop i l) ≡ f (get_or l i d) || any f (drop (suc i) l)
  unfolding any
  any_step = rw (drop-cons l i d h)

module _ {R K : Type 0} (key : R → K) (order : K → K → Ordering) where
  -- each record is below the next: what a loop tests
  abbrev pub stepwise : List R → Bool
  stepwise [] = true
  stepwise (x ∷ []) = true
  stepwise (x ∷ y ∷ l) = is_lt (order (key x) (key y)) && stepwise (y ∷ l)

  module _ (O : Lawful order) where
    -- the order of neighbours is the order of all
    stepwise_in_order : (l : List R) → stepwise l ≡ true → in_order key order l ≡ true
    unfolding in_order all
    stepwise_in_order [] e = refl
    stepwise_in_order (x ∷ []) e = refl
    stepwise_in_order (x ∷ y ∷ l) e =
        let b : R → R → Bool = λ u v. is_lt (order (key u) (key v)) in
        let r = stepwise_in_order (y ∷ l) (and_snd (b x y) (stepwise (y ∷ l)) e) in
        let p = and_fst (b x y) (stepwise (y ∷ l)) e in
        and_both (and_both p (all_weaken (b y) (b x) l (λ z q. ap is_lt (O.trans (key x) (key y) (key z) (lt_of (order (key x) (key y)) p) (lt_of (order (key y) (key z)) q))) (and_fst (all (b y) l) (in_order key order l) r))) r

    in_order_stepwise : (l : List R) → in_order key order l ≡ true → stepwise l ≡ true
    unfolding in_order all
    in_order_stepwise [] e = refl
    in_order_stepwise (x ∷ []) e = refl
    in_order_stepwise (x ∷ y ∷ l) e =
        let b : R → R → Bool = λ u v. is_lt (order (key u) (key v)) in
        let p = and_fst (b x y && all (b x) l) (all (b y) l && in_order key order l) e in
        and_both (and_fst (b x y) (all (b x) l) p) (in_order_stepwise (y ∷ l) (and_snd (b x y && all (b x) l) (all (b y) l && in_order key order l) e))

    pub stepwise_is : (l : List R) → stepwise l ≡ in_order key order l
    stepwise_is l = cases (stepwise l) (λ p. p ∙ sym (stepwise_in_order l p)) (λ p. cases (in_order key order l) (λ q. absurd (clash (in_order_stepwise l q) p)) (λ q. p ∙ sym q))

    -- where the records before the place are all below r: in place of an equal one, or between
    pub put_behind : (r : R) (xs ys : List R) → all (λ x. is_lt (order (key x) (key r))) xs ≡ true → put key order r (xs ++ ys) ≡ xs ++ put key order r ys
    unfolding put all
    put_behind r [] ys e = refl
    put_behind r (x ∷ xs) ys e =
        let p = and_fst (is_lt (order (key x) (key r))) (all (λ x. is_lt (order (key x) (key r))) xs) e in
        let q = and_snd (is_lt (order (key x) (key r))) (all (λ x. is_lt (order (key x) (key r))) xs) e in
        rw (above (key x) (key r) (lt_of (order (key x) (key r)) p), put_behind r xs ys q)
      where
        above : (a b : K) → order a b ≡ Ordering.lt → order b a ≡ Ordering.gt
        above a b h = orders (order b a) (λ k. absurd (lt≢eq (sym (O.trans a b a h k) ∙ O.self a))) (λ k. absurd (lt≢eq (sym h ∙ equal O (sym (O.same b a k))))) (λ k. k)

    pub put_before : (r x : R) (ys : List R) → order (key r) (key x) ≡ Ordering.lt → put key order r (x ∷ ys) ≡ r ∷ x ∷ ys
    unfolding put
    put_before r x ys e = rw e
