-- The laws of `flat`: lists one after another, and, where every record is n bytes, the turns of a loop that writes them.
use mathlib.Core.Path.{◌≡◌, refl, sym, ap, ◌∙◌}
use mathlib.Core.List.{List, [], ◌∷◌, ◌++◌, append_assoc, append-nil}
use Prim.Native.Nat.{ℕ, suc, ◌+◌, ◌-◌, ◌*◌, ◌<◌, ◌≤◌}
use native.Mathlib.Omega.{arith}
use native.Mathlib.Nat.{mul-add, mul-suc, mul-zero, add-zero}
use native.Mathlib.Numerals.{add-one}
use lib.ListN.{length, get_or, drop, length-append, length-drop}
use lib.Seq.{drop-cons, drop-length}
use Rattle.octets.specs.Bytes.{put}
use Rattle.octets.specs.Flat.{flat}
use Rattle.octets.proofs.Places as P

module _ {A : Type 0} (e : A → List ℕ) where
  -- one list after another
  pub flat_append : (xs ys : List A) → flat e (xs ++ ys) ≡ flat e xs ++ flat e ys
  unfolding flat
  flat_append [] ys = refl
  flat_append (x ∷ xs) ys = ap (λ (l : List ℕ). e x ++ l) (flat_append xs ys) ∙ sym (append_assoc (e x) (flat e xs) (flat e ys))

  pub flat_one : (x : A) → flat e (x ∷ []) ≡ e x
  unfolding flat
  flat_one x = append-nil (e x)

module _ {A : Type 0} (n : ℕ) (e : A → List ℕ) (long : (a : A) → length (e a) ≡ n) where
  pub length_flat : (xs : List A) → length (flat e xs) ≡ n * length xs
  unfolding flat
  length_flat [] = sym (mul-zero n)
  length_flat (a ∷ xs) = length-append (e a) (flat e xs) ∙ omega (arith, long a, length_flat xs, mul-suc n (length xs))

  -- a turn of the loop that writes: element i is stored, and what is left to store is what follows it
  pub flat_turn : (at i : ℕ) (xs : List A) (z : A) (s : List ℕ) → i < length xs → at + n * length xs ≤ length s
      → put (at + n * (i + 1)) (flat e (drop (i + 1) xs)) (put (at + n * i) (e (get_or xs i z)) s) ≡ put (at + n * i) (flat e (drop i xs)) s
  unfolding flat
  flat_turn at i xs z s h l =
      let a = get_or xs i z in
      let rest = flat e (drop (i + 1) xs) in
      let r : length rest ≡ n * (length xs - (i + 1)) = length_flat (drop (i + 1) xs) ∙ ap (λ (k : ℕ). n * k) (length-drop (i + 1) xs) in
      let m : n * (i + 1) ≡ n * i + n = ap (λ (k : ℕ). n * k) (add-one i) ∙ mul-suc n i in
      let o : length (flat e (drop i xs)) ≡ n * (length xs - i) = length_flat (drop i xs) ∙ ap (λ (k : ℕ). n * k) (length-drop i xs) in
      let b : n * i + n * (length xs - i) ≡ n * length xs = sym (mul-add n i (length xs - i)) ∙ ap (λ (k : ℕ). n * k) (omega arith) in
      let c : n * (length xs - i) ≡ n * (length xs - (i + 1)) + n = ap (λ (k : ℕ). n * k) (left (length xs) i h) ∙ mul-suc n (length xs - (i + 1)) in
      ap (λ (k : ℕ). put k rest (put (at + n * i) (e a) s)) (omega arith)
      ∙ P.put_next (at + n * i) n (n * (length xs - (i + 1))) (e a) rest s (long a) r (omega arith)
      ∙ ap (λ (k : ℕ). put (at + n * i) (e a ++ flat e (drop k xs)) s) (add-one i)
      ∙ ap (λ (l : List A). put (at + n * i) (flat e l) s) (sym (drop-cons xs i z h))
    where
      left : (m i : ℕ) → i < m → m - i ≡ suc (m - (i + 1))
      left m i h = omega arith

  pub flat_start : (at : ℕ) (xs : List A) (s : List ℕ) → put (at + n * 0) (flat e (drop 0 xs)) s ≡ put at (flat e xs) s
  flat_start at xs s = rw (mul-zero, add-zero)

  pub flat_done : (at i : ℕ) (xs : List A) (s : List ℕ) → i ≡ length xs → put (at + n * i) (flat e (drop i xs)) s ≡ s
  unfolding flat
  flat_done at i xs s h = rw (h, drop-length) (P.put_none _ s)
