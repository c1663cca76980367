-- A test of all elements of a list, in std's word for it; and the ranges of a path, as they are laid out and as the rules have them. Assumes nothing.
use Rattle.std.proofs.Common.{◌≡◌, ℕ, zero, suc, ◌<◌, ◌≤◌, Bool, true, ◌&&◌, eqb, List, [], ◌∷◌, map, length, get_or, take, replicate, sym, refl, ap, ◌∙◌, arith, length-take, take_all, ne_eqb, eqb-true}
use Rattle.std.specs.List.{list_all}
use mathlib.Core.Option.{some}
use lib.ListN.{length-map}
use Rattle.octets.proofs.Orders.{same_true}
use Rattle.octets.specs.Order.{is_equal, lex}
use Rattle.rules.specs.Lists.{all}
use Rattle.rules.specs.Records as rules
use Rattle.rules.proofs.TableLaws.{all_map, and_fst, and_snd}
use Rattle.volume.specs.declared.snapshot.LogRange.{LogRange}
use Rattle.volume.specs.Snapshots.{range_says, laid_range, no_range, is_zero_range, first_end}

-- std's word for it
pub all_listed : {A : Type 0} (f : A → Bool) (xs : List A) → list_all f xs ≡ all f xs
unfolding all
all_listed f [] = refl
all_listed f (x ∷ xs) = ap (λ (b : Bool). f x && b) (all_listed f xs)

-- a test of the rules over the first n ranges of a path of at most 8
pub said : (f : rules.Range → Bool) (xs : List LogRange) (n : ℕ) → length xs ≤ 8 → all (λ r. f (range_says r)) (take n xs) ≡ all f (take 8 (map range_says (take n xs)))
said f xs n h =
    let l : length (map range_says (take n xs)) ≤ 8 = simp (length-map, length-take) (omega arith) in
    rw (take_all 8 (map range_says (take n xs)) l) (sym (all_map f range_says (take n xs)))

-- what a range says lays out as the range
pub back : (xs : List LogRange) → map laid_range (map range_says xs) ≡ xs
back [] = refl
back (x ∷ xs) = ap (λ (l : List LogRange). x ∷ l) (back xs)

range_same : (l m : List ℕ) (a b c e : ℕ) → l ≡ m → a ≡ b → c ≡ e
    → laid_range (record { log = l; start = a; end = c }) ≡ laid_range (record { log = m; start = b; end = e })
range_same l m a b c e p q r = rw (p, q, r)

-- a range that passes for zero is the zero range
zero_range_lem : (r : LogRange) → is_zero_range r ≡ true → r ≡ no_range
zero_range_lem r h =
    let k = and_fst (eqb r.start.0 0 && eqb r.end.0 0) (is_equal (lex r.log (replicate 16 0))) h in
    range_same
    r.log
    (replicate 16 0)
    r.start.0
    0
    r.end.0
    0
    (same_true _ _ (and_snd (eqb r.start.0 0 && eqb r.end.0 0) (is_equal (lex r.log (replicate 16 0))) h))
    (eqb-true _ _ (and_fst (eqb r.start.0 0) (eqb r.end.0 0) k))
    (eqb-true _ _ (and_snd (eqb r.start.0 0) (eqb r.end.0 0) k))

pub zero_ranges : (xs : List LogRange) → all is_zero_range xs ≡ true → xs ≡ replicate (length xs) no_range
unfolding all
zero_ranges [] h = refl
zero_ranges (x ∷ xs) h =
    let p = zero_range_lem x (and_fst (is_zero_range x) (all is_zero_range xs) h) in
    let q = zero_ranges xs (and_snd (is_zero_range x) (all is_zero_range xs) h) in
    ap (λ (y : LogRange). y ∷ xs) p ∙ ap (λ (l : List LogRange). no_range ∷ l) q

-- the first range of a path that has one
pub first_end_lem : (xs : List LogRange) (d : LogRange) (n : ℕ) → 0 < n → 0 < length xs → some ((get_or xs 0 d).log, (get_or xs 0 d).end.0) ≡ first_end (map range_says (take n xs))
first_end_lem [] d n h k = absurd (omega arith)
first_end_lem (x ∷ xs) d zero h k = absurd (omega arith)
first_end_lem (x ∷ xs) d (suc n) h k = refl

-- of a list that is not empty the first n are none where n is 0
pub none_on : (xs : List LogRange) (n : ℕ) → 0 < length xs → eqb n 0 ≡ eqb (length (map range_says (take n xs))) 0
none_on [] n h = absurd (omega arith)
none_on (x ∷ xs) zero h = refl
none_on (x ∷ xs) (suc n) h = ne_eqb (suc n) 0 (λ e. omega arith) ∙ sym (ne_eqb (suc (length (map range_says (take n xs)))) 0 (λ e. omega arith))
