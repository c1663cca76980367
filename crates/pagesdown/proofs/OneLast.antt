-- One page and one rest are the last page of a window and what is left of it. Two lists that end in one element each are equal only if the elements are and what stands before them is;
-- and the pages of a window say each bit of its mask.
use Prim.Native.Nat.{ℕ, suc, ◌+◌, ◌*◌, ◌/◌, ◌%◌, ◌^◌, ◌<◌}
use mathlib.Core.Path.{◌≡◌, refl, sym, ap, ap₂, ◌∙◌}
use mathlib.Core.Bool.{Bool, true}
use mathlib.Core.List.{List, [], ◌∷◌, ◌++◌}
use native.Mathlib.Omega.{arith}
use borrow.Author.Tests.{eq-eqb, le-leb}
use lib.Dec.{eqb}
use lib.ListN.{length, length-append}
use Rattle.pageset.specs.declared.Window.{Window}
use Rattle.pageset.specs.Sets.{bit, holds, mask_at, rising}
use Rattle.pageset.proofs.BitLaws.{bit_ext}
use Rattle.rules.specs.Lists.{any}
use Rattle.rules.specs.Pages.{pages_in}
use Rattle.rules.proofs.PageLaws.{pages_holds}
use Rattle.pagesdown.specs.Down.{LastOf, Stepped, under}

-- a list of one element is none of two and more
longer : (n : ℕ) (ys : List ℕ) (b : ℕ) → n + 1 ≡ suc (length (ys ++ b ∷ [])) → n ≡ 0 → ⊥
longer n ys b e z = let k = length-append ys (b ∷ []) in omega (arith, k, e, z)

-- what stands before the last element
ends : (xs ys : List ℕ) (a b : ℕ) → xs ++ a ∷ [] ≡ ys ++ b ∷ [] → (xs ≡ ys) × (a ≡ b)
ends [] [] a b e = let p : a ≡ b = cc in (refl, p)
ends [] (y ∷ ys) a b e = absurd (longer 0 ys b (ap length e) refl)
ends (x ∷ xs) [] a b e = absurd (longer 0 xs a (ap length (sym e)) refl)
ends (x ∷ xs) (y ∷ ys) a b e =
    let p : x ≡ y = cc in
    let q : xs ++ a ∷ [] ≡ ys ++ b ∷ [] = cc in
    let r = ends xs ys a b q in
    let s : xs ≡ ys = r.0 in
    (cc, r.1)

-- bit j of a window's mask, by its pages
told : (w : Window) (j : ℕ) → j < 64 → any (λ q. eqb (w.index * 64 + j) q) (pages_in (w ∷ [])) ≡ bit w.mask j
unfolding holds mask_at rising
told w j h =
    let d : (w.index * 64 + j) / 64 ≡ w.index = omega arith in
    let m : (w.index * 64 + j) % 64 ≡ j = omega arith in
    pages_holds 0 (w ∷ []) (w.index * 64 + j) (rw (le-leb 0 w.index (omega arith))) ∙ rw (d, m, eq-eqb w.index w.index refl)

pub one_last : (w : Window) (p q : ℕ) (a b : Window) → w.mask < 2 ^ 64 → LastOf w p a → LastOf w q b → (p ≡ q) × (a ≡ b)
one_last w p q a b m h k =
    let e = ends (pages_in (a ∷ [])) (pages_in (b ∷ [])) p q (sym h.pages ∙ k.pages) in
    let i : a.index ≡ b.index = h.index ∙ sym k.index in
    let bits : (j : ℕ) → j < 64 → bit a.mask j ≡ bit b.mask j =
    λ j l. sym (told a j l) ∙ ap (any (λ x. eqb (a.index * 64 + j) x)) e.0 ∙ ap (λ (x : ℕ). any (λ y. eqb (x * 64 + j) y) (pages_in (b ∷ []))) i ∙ told b j l in
    let n : a.mask ≡ b.mask = bit_ext 64 a.mask b.mask (omega (arith, h.less)) (omega (arith, k.less)) bits in
    (e.1, ap₂ (λ (x y : ℕ). record { index = x; mask = y }) i n)

-- so a step of the walk is one
pub one_step : (n : ℕ) (w below : Window) (p q m k : ℕ) (a b : Window) → (under w below).mask < 2 ^ 64 → Stepped n w below p m a → Stepped n w below q k b → (p ≡ q) × ((m ≡ k) × (a ≡ b))
one_step n w below p q m k a b l h j =
    let r = one_last (under w below) p q a b l h.last j.last in
    (r.0, (h.begun ∙ sym j.begun, r.1))
