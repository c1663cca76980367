-- The masks beside windows one by one, and the set that windows with masks of their own are: windows in order have one mask at an index, so the masks decide the set bit by bit, and
-- one set in normal form has just its pages.
use Prim.Native.Nat.{ℕ, zero, suc, ◌+◌, ◌*◌, ◌/◌, ◌%◌, ◌^◌, ◌≤◌, ◌<◌}
use mathlib.Core.Path.{◌≡◌, refl, sym, ap, ◌∙◌}
use mathlib.Core.Logic.{◌⊎◌, inl, inr}
use mathlib.Core.List.{List, [], ◌∷◌, ◌++◌}
use mathlib.Core.Bool.{Bool, true, false}
use native.Mathlib.Omega.{arith}
use borrow.Author.Tests.{eqb-true, ne_eqb, lt-ltb}
use lib.Bits.{bit_or}
use lib.Dec.{eqb}
use lib.ListN.{length, get_or}
use Rattle.pageset.specs.Sets.{bit, mask_at, holds, normal_form, zero_window}
use Rattle.pageset.specs.declared.Window.{Window}
use Rattle.pageset.proofs.BitLaws.{bit_none, bit_ext}
use Rattle.pageset.proofs.FormLaws.{Rises, rises_fact}
use Rattle.pageset.proofs.SpanLaws.{one_rises, one_same, one_other}
use Rattle.pageset.proofs.WalkLaws.{one}
use Rattle.pageset.proofs.WindowLaws.{eq_or, mask_nil, mask_other, mask_below, mask_lt, known}
use Rattle.rules.specs.Records.{Pages}
use Rattle.rules.specs.Pages.{without, is_empty}
use Rattle.rules.proofs.TableLaws.{and_fst, and_snd}
use Rattle.masks.specs.Masks.{given, less_masks, more_masks, no_masks, Has}

-- ---- one by one

pub less_at : (ws u : Pages) (ms : List ℕ) (i : ℕ) → i < length ws → i < length ms → get_or (less_masks ws u ms) i 0 ≡ without (get_or ms i 0) (mask_at u (get_or ws i zero_window).index)
unfolding less_masks
less_at [] u ms i h l = absurd (omega arith)
less_at (w ∷ ws) u [] i h l = absurd (omega arith)
less_at (w ∷ ws) u (m ∷ ms) zero h l = refl
less_at (w ∷ ws) u (m ∷ ms) (suc i) h l = less_at ws u ms i (omega arith) (omega arith)

pub length_less : (ws u : Pages) (ms : List ℕ) → length ws ≤ length ms → length (less_masks ws u ms) ≡ length ms
unfolding less_masks
length_less [] u ms h = refl
length_less (w ∷ ws) u [] h = refl
length_less (w ∷ ws) u (m ∷ ms) h = ap suc (length_less ws u ms (omega arith))

pub more_at : (n : ℕ) (ms ks : List ℕ) (i : ℕ) → i < n → i < length ms → i < length ks → get_or (more_masks n ms ks) i 0 ≡ bit_or (get_or ms i 0) (get_or ks i 0)
unfolding more_masks
more_at zero ms ks i h l k = absurd (omega arith)
more_at (suc n) [] ks i h l k = absurd (omega arith)
more_at (suc n) (m ∷ ms) [] i h l k = absurd (omega arith)
more_at (suc n) (m ∷ ms) (x ∷ ks) zero h l k = refl
more_at (suc n) (m ∷ ms) (x ∷ ks) (suc i) h l k = more_at n ms ks i (omega arith) (omega arith) (omega arith)

pub length_more : (n : ℕ) (ms ks : List ℕ) → length (more_masks n ms ks) ≡ length ms
unfolding more_masks
length_more zero ms ks = refl
length_more (suc n) [] ks = refl
length_more (suc n) (m ∷ ms) [] = refl
length_more (suc n) (m ∷ ms) (x ∷ ks) = ap suc (length_more n ms ks)

pub none_at : (n : ℕ) (ms : List ℕ) (i : ℕ) → no_masks n ms ≡ true → i < n → i < length ms → get_or ms i 0 ≡ 0
unfolding no_masks
none_at zero ms i e h l = absurd (omega arith)
none_at (suc n) [] i e h l = absurd (omega arith)
none_at (suc n) (m ∷ ms) zero e h l = eqb-true m 0 (and_fst (eqb m 0) (no_masks n ms) e)
none_at (suc n) (m ∷ ms) (suc i) e h l = none_at n ms i (and_snd (eqb m 0) (no_masks n ms) e) (omega arith) (omega arith)

-- ---- the windows that masks of their own leave

-- a first window, where its mask has a page, and the rest
pub given_cons : (w : Window) (ws : Pages) (m : ℕ) (ms : List ℕ) → given (w ∷ ws) (m ∷ ms) ≡ one w.index m ++ given ws ms
unfolding given one
given_cons w ws zero ms = refl
given_cons w ws (suc m) ms = rw (lt-ltb 0 (suc m) (omega arith))

pub none_empty : (ws : Pages) (ms : List ℕ) → length ws ≤ length ms → no_masks (length ws) ms ≡ is_empty (given ws ms)
unfolding no_masks given
none_empty [] ms h = refl
none_empty (w ∷ ws) [] h = absurd (omega arith)
none_empty (w ∷ ws) (zero ∷ ms) h = none_empty ws ms (omega arith)
none_empty (w ∷ ws) (suc m ∷ ms) h = rw (ne_eqb (suc m) 0 (λ e. omega arith), lt-ltb 0 (suc m) (omega arith))

given_rises : (lo : ℕ) (ws : Pages) (ms : List ℕ) → Rises lo ws → ((i : ℕ) → i < length ws → get_or ms i 0 < 2 ^ 64) → Rises lo (given ws ms)
unfolding Rises given
given_rises lo [] ms r s = tt
given_rises lo (w ∷ ws) [] r s = tt
given_rises lo (w ∷ ws) (m ∷ ms) r s =
    rw (given_cons w ws m ms)
    (one_rises w.index m lo (given ws ms) r.0 r.1 (s 0 (omega arith)) (given_rises (w.index + 1) ws ms r.4 (λ i h. s (suc i) (omega arith))))

-- the mask at the first window's index, and at others
module _ (w : Window) (ws : Pages) (m : ℕ) (ms : List ℕ) (q : ℕ) where
  given_same : w.index ≡ q → Rises (w.index + 1) (given ws ms) → mask_at (given (w ∷ ws) (m ∷ ms)) q ≡ m
  given_same e r =
      rw (← e) (ap (λ (u : Pages). mask_at u w.index) (given_cons w ws m ms) ∙ one_same w.index m (given ws ms) (mask_below (w.index + 1) (given ws ms) w.index r (omega arith)))

  given_other : (w.index ≡ q → ⊥) → mask_at (given (w ∷ ws) (m ∷ ms)) q ≡ mask_at (given ws ms) q
  given_other n = ap (λ (u : Pages). mask_at u q) (given_cons w ws m ms) ∙ one_other w.index m (given ws ms) q n

-- bit b at index q is x: the masks of the windows of that index say so, or there is no such window
given_bit : (q b : ℕ) (x : Bool) (lo : ℕ) (ws : Pages) (ms : List ℕ) → Rises lo ws → length ws ≤ length ms → ((i : ℕ) → i < length ws → get_or ms i 0 < 2 ^ 64)
    → ((i : ℕ) → i < length ws → (get_or ws i zero_window).index ≡ q → bit (get_or ms i 0) b ≡ x) → (mask_at ws q ≡ 0 → x ≡ false) → bit (mask_at (given ws ms) q) b ≡ x
unfolding Rises given
given_bit q b x lo [] ms r l s h z = ap (λ (k : ℕ). bit k b) (mask_nil q) ∙ bit_none b ∙ sym (z (mask_nil q))
given_bit q b x lo (w ∷ ws) [] r l s h z = absurd (omega arith)
given_bit q b x lo (w ∷ ws) (m ∷ ms) r l s h z =
    let t : (i : ℕ) → i < length ws → get_or ms i 0 < 2 ^ 64 = λ i k. s (suc i) (omega arith) in
    step (eq_or w.index q) (given_rises (w.index + 1) ws ms r.4 t)
    (λ n. given_bit q b x (w.index + 1) ws ms r.4 (omega arith) t (λ i k. h (suc i) (omega arith)) (λ y. z (mask_other w ws q n ∙ y)))
  where
    step : (w.index ≡ q) ⊎ (w.index ≡ q → ⊥) → Rises (w.index + 1) (given ws ms) → ((w.index ≡ q → ⊥) → bit (mask_at (given ws ms) q) b ≡ x) → bit (mask_at (given (w ∷ ws) (m ∷ ms)) q) b ≡ x
    step (inl e) up rest = ap (λ (k : ℕ). bit k b) (given_same w ws m ms q e up) ∙ h 0 (omega arith) e
    step (inr n) up rest = ap (λ (k : ℕ). bit k b) (given_other w ws m ms q n) ∙ rest n

-- ---- the set

form_rises : (s : Pages) → normal_form s ≡ true → Rises 0 s
unfolding normal_form
form_rises s e = rises_fact 0 s (search (and_fst, and_snd)) (search (and_fst, and_snd))

-- page b of the window of index q
pub holds_at_lem : (s : Pages) (q b : ℕ) → b < 64 → holds s (q * 64 + b) ≡ bit (mask_at s q) b
unfolding holds
holds_at_lem s q b h =
    let d : (q * 64 + b) / 64 ≡ q = omega arith in
    let m : (q * 64 + b) % 64 ≡ b = omega arith in
    rw (d, m)

module _ (f : ℕ → Bool) (ws : Pages) (ms : List ℕ) (g : Pages) (nw : normal_form ws ≡ true) (ng : normal_form g ≡ true) (l : length ws ≤ length ms)
    (small : (i : ℕ) → i < length ws → get_or ms i 0 < 2 ^ 64) (has : Has f ws ms) (none : (p : ℕ) → holds ws p ≡ false → f p ≡ false) (same : (p : ℕ) → holds g p ≡ f p) where
  bits : (q b : ℕ) → b < 64 → bit (mask_at (given ws ms) q) b ≡ bit (mask_at g q) b
  bits q b h =
      given_bit q b (f (q * 64 + b)) 0 ws ms (form_rises ws nw) l small (λ i k e. has i k b h ∙ ap (λ (n : ℕ). f (n * 64 + b)) e)
      (λ z. none (q * 64 + b) (holds_at_lem ws q b h ∙ ap (λ (k : ℕ). bit k b) z ∙ bit_none b))
      ∙ sym (same (q * 64 + b))
      ∙ holds_at_lem g q b h

  -- THE SET THAT MASKS GIVE: where they say f of the pages of their windows, and f holds of no other page, it is the set of just those pages
  pub given_is : given ws ms ≡ g
  given_is =
      let r = given_rises 0 ws ms (form_rises ws nw) small in
      let t = form_rises g ng in
      known 0 0 (given ws ms) g r t (λ q. bit_ext 64 _ _ (mask_lt 0 (given ws ms) q r) (mask_lt 0 g q t) (λ b h. bits q b h))
