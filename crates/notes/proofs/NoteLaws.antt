-- The notes after one more window is met. A page of another window is held as before, one of this window if it was or if the new mask has it. Places of other numbers modulo 64 have other
-- windows, so only the window's own place can need a change; marks are only added, so a window without one was without one before, and is not the window met.
use Prim.Native.Nat.{ℕ, zero, suc, ◌+◌, ◌*◌, ◌/◌, ◌%◌, ◌^◌, ◌<◌, ◌≤◌}
use mathlib.Core.Path.{◌≡◌, refl, sym, ap, ◌∙◌, subst}
use mathlib.Core.Bool.{Bool, true, false, ◌||◌, or-false, or-true}
use mathlib.Core.List.{List}
use native.Mathlib.Nat.{one-mul}
use native.Mathlib.Omega.{arith}
use native.Mathlib.Decide.{ℕ_discrete}
use borrow.Author.Tests.{eq-eqb, ne_eqb, lt-ltb}
use lib.Bits.{bit_or, shifted_half}
use Rattle.std.specs.Prelude.{Some}
use lib.ListN.{length, get_or, set, replicate}
use lib.Seq.{get_or-set_same, get_or-set_other}
use Rattle.pageset.specs.Sets.{bit}
use Rattle.pageset.proofs.FormLaws.{clash}
use Rattle.pageset.proofs.BitLaws.{bit_suc, bit_or_lem, bit_none, bit_ones, shl_one}
use Rattle.notes.specs.declared.Notes.{Notes}
use Rattle.notes.specs.Known.{marked, Of, Known, Tells, and_held}

neither_left : (a b : Bool) → a || b ≡ false → a ≡ false
neither_left true b e = e
neither_left false b e = refl

-- bit k of 2^k is set
bit_power : (k : ℕ) → bit (1 * 2 ^ k) k ≡ true
unfolding bit
bit_power zero = refl
bit_power (suc k) = bit_suc (1 * 2 ^ suc k) k ∙ ap (λ (x : ℕ). bit x k) (shifted_half 1 k) ∙ bit_power k

module _ (held : ℕ → Bool) (q mask : ℕ) where
  -- a page of another window
  other_page : (x b : ℕ) → b < 64 → (x ≡ q → ⊥) → and_held held q mask (x * 64 + b) ≡ held (x * 64 + b)
  other_page x b l n =
      let d : (x * 64 + b) / 64 ≡ x = omega arith in
      rw (d, ne_eqb q x (λ z. n (sym z))) (or-false (held (x * 64 + b)))

  -- a page of this window
  own_page : (b : ℕ) → b < 64 → and_held held q mask (q * 64 + b) ≡ held (q * 64 + b) || bit mask b
  own_page b l =
      let d : (q * 64 + b) / 64 ≡ q = omega arith in
      let m : (q * 64 + b) % 64 ≡ b = omega arith in
      rw (d, m, eq-eqb q q refl)

  module _ (n : Notes) (places : length n.tags ≡ 64) (pages : length n.masks ≡ 64) (words : length n.marks ≡ 64) (k : Known held n) where
    abbrev at : ℕ
    at = q % 64

    abbrev word : ℕ
    word = q / 64 % 64

    abbrev marks' : List ℕ
    marks' = set n.marks word (bit_or (get_or n.marks word 0) (1 * 2 ^ (q % 64) % 18446744073709551616))

    -- ---- marks

    inside : word < length n.marks
    inside = omega (arith, words)

    own_mark : marked marks' q ≡ true
    own_mark =
        ap (λ (w : ℕ). bit w (q % 64)) (get_or-set_same n.marks word (bit_or (get_or n.marks word 0) (1 * 2 ^ (q % 64) % 18446744073709551616)) 0 inside)
        ∙ bit_or_lem (get_or n.marks word 0) (1 * 2 ^ (q % 64) % 18446744073709551616) (q % 64)
        ∙ ap (λ (b : Bool). bit (get_or n.marks word 0) (q % 64) || b) (ap (λ (w : ℕ). bit w (q % 64)) (shl_one 64 (q % 64) (omega arith) ∙ sym (one-mul (2 ^ (q % 64)))) ∙ bit_power (q % 64))
        ∙ or-true (bit (get_or n.marks word 0) (q % 64))

    kept_mark : (p : ℕ) → marked marks' p ≡ false → marked n.marks p ≡ false
    kept_mark p e = go (ℕ_discrete (p / 64 % 64) word)
      where
        go : Dec (p / 64 % 64 ≡ word) → marked n.marks p ≡ false
        go (yes z) =
            let f = sym (ap (λ (w : ℕ). bit w (p % 64)) (ap (λ (i : ℕ). get_or marks' i 0) z ∙ get_or-set_same n.marks word (bit_or (get_or n.marks word 0) (1 * 2 ^ (q % 64) % 18446744073709551616)) 0 inside) ∙ bit_or_lem (get_or n.marks word 0) (1 * 2 ^ (q % 64) % 18446744073709551616) (p % 64)) ∙ e in
            ap (λ (i : ℕ). bit (get_or n.marks i 0) (p % 64)) z ∙ neither_left (bit (get_or n.marks word 0) (p % 64)) (bit (1 * 2 ^ (q % 64) % 18446744073709551616) (p % 64)) f
        go (no d) = ap (λ (w : ℕ). bit w (p % 64)) (sym (get_or-set_other n.marks word (p / 64 % 64) (bit_or (get_or n.marks word 0) (1 * 2 ^ (q % 64) % 18446744073709551616)) 0 d)) ∙ e

    -- a window that has no mark now has no page that is held
    free' : (p : ℕ) → marked marks' p ≡ false → Of (and_held held q mask) p 0
    free' p e b l = k.free p (kept_mark p e) b l ∙ sym (other_page p b l (λ z. clash (marked marks' q) own_mark (ap (λ (x : ℕ). marked marks' x) (sym z) ∙ e)))

    -- a place of another number has another window
    elsewhere : (s : ℕ) → s < 64 → (s ≡ at → ⊥) → Of (and_held held q mask) (get_or n.tags s 0 * 64 + s) (get_or n.masks s 0)
    elsewhere s l d b h = k.exact s l b h ∙ sym (other_page (get_or n.tags s 0 * 64 + s) b h (λ z. d (omega arith)))

    -- ---- the window is in its place

    module _ (e : get_or n.tags at 0 ≡ q / 64) where
      here : get_or n.tags at 0 * 64 + at ≡ q
      here = omega arith

      pub told_here : Tells held q (Some (get_or n.masks at 0))
      told_here b l = k.exact at (omega arith) b l ∙ ap (λ (x : ℕ). held (x * 64 + b)) here

      pub noted_here : Known (and_held held q mask) (record { tags = n.tags; masks = set n.masks at (bit_or (get_or n.masks at 0) mask); marks = marks' })
      noted_here = record {
        exact = λ s l. go s l (ℕ_discrete s at);
        free = free';
      }
        where
          own : Of (and_held held q mask) (get_or n.tags at 0 * 64 + at) (get_or (set n.masks at (bit_or (get_or n.masks at 0) mask)) at 0)
          own b l =
              ap (λ (m : ℕ). bit m b) (get_or-set_same n.masks at (bit_or (get_or n.masks at 0) mask) 0 (omega (arith, pages)))
              ∙ bit_or_lem (get_or n.masks at 0) mask b
              ∙ ap (λ (h : Bool). h || bit mask b) (told_here b l)
              ∙ sym (own_page b l)
              ∙ ap (λ (x : ℕ). and_held held q mask (x * 64 + b)) (sym here)

          go : (s : ℕ) → s < 64 → Dec (s ≡ at) → Of (and_held held q mask) (get_or n.tags s 0 * 64 + s) (get_or (set n.masks at (bit_or (get_or n.masks at 0) mask)) s 0)
          go s l (yes z) = subst (λ (x : ℕ). Of (and_held held q mask) (get_or n.tags x 0 * 64 + x) (get_or (set n.masks at (bit_or (get_or n.masks at 0) mask)) x 0)) (sym z) own
          go s l (no d) = λ b h. ap (λ (m : ℕ). bit m b) (get_or-set_other n.masks at s (bit_or (get_or n.masks at 0) mask) 0 d) ∙ elsewhere s l d b h

    -- ---- another window is in its place

    module _ (other : get_or n.tags at 0 ≡ q / 64 → ⊥) where
      pub noted_nowhere : Known (and_held held q mask) (record { tags = n.tags; masks = n.masks; marks = marks' })
      noted_nowhere = record { exact = λ s l. go s l (ℕ_discrete s at); free = free' }
        where
          go : (s : ℕ) → s < 64 → Dec (s ≡ at) → Of (and_held held q mask) (get_or n.tags s 0 * 64 + s) (get_or n.masks s 0)
          go s l (yes z) b h = k.exact s l b h ∙ sym (other_page (get_or n.tags s 0 * 64 + s) b h (λ y. other (ap (λ (x : ℕ). get_or n.tags x 0) (sym z) ∙ whole (get_or n.tags s 0) s l y)))
            where
              whole : (t s : ℕ) → s < 64 → t * 64 + s ≡ q → t ≡ q / 64
              whole t s l y = omega arith
          go s l (no m) b h = elsewhere s l m b h

    -- ---- a window that was not met

    module _ (e : marked n.marks q ≡ false) where
      pub told_free : Tells held q (Some 0)
      told_free = k.free q e

      pub noted_free : Known (and_held held q mask) (record { tags = set n.tags at (q / 64); masks = set n.masks at mask; marks = marks' })
      noted_free = record {
        exact = λ s l. go s l (ℕ_discrete s at);
        free = free';
      }
        where
          here : get_or (set n.tags at (q / 64)) at 0 * 64 + at ≡ q
          here = let f = get_or-set_same n.tags at (q / 64) 0 (omega (arith, places)) in omega arith

          own : Of (and_held held q mask) (get_or (set n.tags at (q / 64)) at 0 * 64 + at) (get_or (set n.masks at mask) at 0)
          own b l =
              ap (λ (m : ℕ). bit m b) (get_or-set_same n.masks at mask 0 (omega (arith, pages)))
              ∙ ap (λ (h : Bool). h || bit mask b) (sym (bit_none b) ∙ k.free q e b l)
              ∙ sym (own_page b l)
              ∙ ap (λ (x : ℕ). and_held held q mask (x * 64 + b)) (sym here)

          go : (s : ℕ) → s < 64 → Dec (s ≡ at) → Of (and_held held q mask) (get_or (set n.tags at (q / 64)) s 0 * 64 + s) (get_or (set n.masks at mask) s 0)
          go s l (yes z) = subst (λ (x : ℕ). Of (and_held held q mask) (get_or (set n.tags at (q / 64)) x 0 * 64 + x) (get_or (set n.masks at mask) x 0)) (sym z) own
          go s l (no d) = λ b h.
              ap (λ (m : ℕ). bit m b) (get_or-set_other n.masks at s mask 0 d)
              ∙ elsewhere s l d b h
              ∙ ap (λ (t : ℕ). and_held held q mask ((t * 64 + s) * 64 + b)) (sym (get_or-set_other n.tags at s (q / 64) 0 d))

-- ---- notes of the same pages, of none, and of any

pub known_same : (f g : ℕ → Bool) (n : Notes) → ((p : ℕ) → f p ≡ g p) → Known f n → Known g n
known_same f g n e k = record {
  exact = λ s l b h. k.exact s l b h ∙ e ((get_or n.tags s 0 * 64 + s) * 64 + b);
  free = λ q z b h. k.free q z b h ∙ e (q * 64 + b);
}

-- an array of one number
alike : (x n i : ℕ) → i < n → get_or (replicate n x) i 0 ≡ x
alike x zero i h = absurd (omega arith)
alike x (suc n) zero h = refl
alike x (suc n) (suc i) h = alike x n i (omega arith)

-- fresh notes, while no page is held
pub known_none : Known (λ p. false) (record { tags = replicate 64 0; masks = replicate 64 0; marks = replicate 64 0 })
known_none = record {
  exact = λ s l b h. ap (λ (m : ℕ). bit m b) (alike 0 64 s l) ∙ bit_none b;
  free = λ q z b h. bit_none b;
}

-- notes that know nothing: each place has a window past the last, and each mark is set
pub known_nothing : (held : ℕ → Bool) → ((p : ℕ) → 4294967296 ≤ p → held p ≡ false)
    → Known held (record { tags = replicate 64 4294967295; masks = replicate 64 0; marks = replicate 64 18446744073709551615 })
known_nothing held past = record {
  exact = λ s l b h. ap (λ (m : ℕ). bit m b) (alike 0 64 s l) ∙ bit_none b ∙ sym (past ((get_or (replicate 64 4294967295) s 0 * 64 + s) * 64 + b) (let e = alike 4294967295 64 s l in omega arith));
  free = λ q z. absurd (clash (marked (replicate 64 18446744073709551615) q) (set_mark q) z);
}
  where
    set_mark : (q : ℕ) → marked (replicate 64 18446744073709551615) q ≡ true
    set_mark q = ap (λ (w : ℕ). bit w (q % 64)) (alike 18446744073709551615 64 (q / 64 % 64) (omega arith)) ∙ bit_ones 64 (q % 64) ∙ lt-ltb (q % 64) 64 (omega arith)
