-- The last page of a window. Its mask m has a highest bit t, so m less 2 ^ t is what is left of m by 2 ^ t: it has the bits of m below t, and no others
-- (`bit_mod`). So the pages below t are those of both, page t is m's alone, and above it there is none.
use Prim.Native.Nat.{ℕ, suc, ◌+◌, ◌-◌, ◌*◌, ◌%◌, ◌^◌, ◌≤◌, ◌<◌}
use mathlib.Core.Path.{◌≡◌, refl, sym, ap, ◌∙◌}
use mathlib.Core.Bool.{Bool, true, false, ◌&&◌, and-true, and-false}
use mathlib.Core.List.{List, [], ◌∷◌, ◌++◌, append-nil}
use native.Mathlib.Nat.{pow-suc}
use native.Mathlib.Omega.{arith}
use lib.Count.{count_leading_zeros, leading_top}
use lib.Arith.{digits_mod}
use lib.Pow.{pow_pos}
use borrow.Author.Tests.{lt-ltb, le-ltb}
use Rattle.pageset.specs.declared.Window.{Window}
use Rattle.pageset.specs.Sets.{bit}
use Rattle.pageset.proofs.BitLaws.{leading_highest, bit_mod, shl_one}
use Rattle.rules.specs.Lists.{those}
use Rattle.rules.specs.Pages.{numbers, pages_in}
use Rattle.rules.proofs.TableLaws.{those_append}
use Rattle.rules.proofs.PageCounts.{numbers_append, those_same, those_none}
use Rattle.pagesdown.specs.Down.{LastOf}

-- t is the highest bit of m
record Top (m t : ℕ) : Type 0 where
  place : 63 - count_leading_zeros 64 m ≡ t
  small : t < 64
  reach : 2 ^ t ≤ m
  set : bit m t ≡ true
  clear : (j : ℕ) → t < j → bit m j ≡ false
  rest : m - 2 ^ t ≡ m % 2 ^ t

top_bit : (m : ℕ) → 0 < m → m < 2 ^ 64 → (t : ℕ) × Top m t
top_bit m p h =
    let r = leading_top 64 m p h in
    let g = leading_highest 64 m p h in
    let t = r.0 in
    let e : g.0 ≡ t = omega (arith, r.1, g.1) in
    let low : m - 2 ^ t < 2 ^ t = omega (arith, r.2, r.3, pow-suc 2 t) in
    let whole : m ≡ 1 * 2 ^ t + (m - 2 ^ t) = omega (arith, r.2) in (
      t,
      record {
        place = omega (arith, r.1);
        small = omega (arith, r.1);
        reach = r.2;
        set = ap (bit m) (sym e) ∙ g.2.set;
        clear = λ j l. g.2.clear j (omega arith);
        rest = sym (ap (λ (x : ℕ). x % 2 ^ t) whole ∙ digits_mod 1 low);
      },
    )

-- the pages of window q with mask m
abbrev pub pages : ℕ → ℕ → List ℕ
pages q m = those (λ p. bit m (p % 64)) (numbers (q * 64) 64)

-- the bits of the rest
module _ (m t : ℕ) (h : Top m t) where
  below : (j : ℕ) → j < t → bit (m - 2 ^ t) j ≡ bit m j
  below j l =
      ap (λ (x : ℕ). bit x j) h.rest ∙ bit_mod m t j ∙ ap (λ (b : Bool). bit m j && b) (lt-ltb j t l) ∙ and-true (bit m j)

  above : (j : ℕ) → t ≤ j → bit (m - 2 ^ t) j ≡ false
  above j l =
      ap (λ (x : ℕ). bit x j) h.rest ∙ bit_mod m t j ∙ ap (λ (b : Bool). bit m j && b) (le-ltb j t l) ∙ and-false (bit m j)

  -- page t of window q, those before it and those after it
  parts : (q : ℕ) → numbers (q * 64) 64 ≡ numbers (q * 64) t ++ (q * 64 + t) ∷ numbers (suc (q * 64 + t)) (63 - t)
  unfolding numbers
  parts q =
      let e : t + suc (63 - t) ≡ 64 = omega (arith, h.small) in
      ap (numbers (q * 64)) (sym e) ∙ numbers_append (q * 64) t (suc (63 - t))

  last_page_lem : (q : ℕ) → pages q m ≡ pages q (m - 2 ^ t) ++ (q * 64 + t) ∷ []
  unfolding those
  last_page_lem q =
      let f : ℕ → Bool = λ p. bit m (p % 64) in
      let g : ℕ → Bool = λ p. bit (m - 2 ^ t) (p % 64) in
      let a : List ℕ = numbers (q * 64) t in
      let b : List ℕ = numbers (suc (q * 64 + t)) (63 - t) in
      let z : (q * 64 + t) % 64 ≡ t = omega (arith, h.small) in
      let here : f (q * 64 + t) ≡ true = ap (bit m) z ∙ h.set in
      let gone : g (q * 64 + t) ≡ false = above ((q * 64 + t) % 64) (omega arith) in
      let same : those f a ≡ those g a = those_same f g (q * 64) t (λ p u v. sym (below (p % 64) (omega (arith, h.small)))) in
      let none : those f b ≡ [] = those_none f (suc (q * 64 + t)) (63 - t) (λ p u v. h.clear (p % 64) (omega (arith, h.small))) in
      let empty : those g b ≡ [] = those_none g (suc (q * 64 + t)) (63 - t) (λ p u v. above (p % 64) (omega (arith, h.small))) in
      let left : pages q m ≡ those f a ++ (q * 64 + t) ∷ [] =
      ap (those f) (parts q) ∙ those_append f a ((q * 64 + t) ∷ b) ∙ ap (λ (l : List ℕ). those f a ++ l) (rw (here, none)) in
      let right : pages q (m - 2 ^ t) ≡ those g a =
      ap (those g) (parts q) ∙ those_append g a ((q * 64 + t) ∷ b) ∙ ap (λ (l : List ℕ). those g a ++ l) (rw (gone, empty)) ∙ append-nil (those g a) in
      left ∙ ap (λ (l : List ℕ). l ++ (q * 64 + t) ∷ []) (same ∙ sym right)

-- the pages of one window
pub one_window : (w : Window) → pages_in (w ∷ []) ≡ pages w.index w.mask
unfolding pages_in
one_window w = append-nil (pages w.index w.mask)

-- ---- what `take_last` writes

module _ (w : Window) (p : 0 < w.mask) (h : w.mask < 2 ^ 64) where
  abbrev b : ℕ
  b = 63 - count_leading_zeros 64 w.mask

  pub bit_small : (count_leading_zeros 64 w.mask < 64) × (63 - count_leading_zeros 64 w.mask < 64)
  bit_small = let r = leading_top 64 w.mask p h in (omega (arith, r.1), omega (arith, r.1))

  shifted : 1 * 2 ^ b % 2 ^ 64 ≡ 2 ^ b
  shifted = shl_one 64 b bit_small.1

  pub bit_reach : 1 * 2 ^ (63 - count_leading_zeros 64 w.mask) % 2 ^ 64 ≤ w.mask
  bit_reach =
      let r = top_bit w.mask p h in
      rw (shifted, r.1.place) r.1.reach

  pub taken : LastOf w (w.index * 64 + (63 - count_leading_zeros 64 w.mask)) (record { index = w.index; mask = w.mask - 1 * 2 ^ (63 - count_leading_zeros 64 w.mask) % 2 ^ 64 })
  taken =
      let r = top_bit w.mask p h in
      let t = r.0 in
      let e : 1 * 2 ^ b % 2 ^ 64 ≡ 2 ^ t = shifted ∙ ap (λ (x : ℕ). 2 ^ x) r.1.place in
      rw (e, r.1.place)
      (record {
        pages = one_window w ∙ last_page_lem w.mask t r.1 w.index ∙ ap (λ (l : List ℕ). l ++ (w.index * 64 + t) ∷ []) (sym (one_window (record { index = w.index; mask = w.mask - 2 ^ t })));
        index = refl;
        less = omega (arith, r.1.reach, pow_pos t);
      })
