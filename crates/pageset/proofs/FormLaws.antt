-- What the tests of Sets say, as facts: a test that is true gives the facts, and the facts make it true. Assumes nothing.
use Rattle.std.proofs.Common.{◌≡◌, ℕ, zero, suc, ◌+◌, ◌-◌, ◌^◌, ◌<◌, ◌≤◌, Bool, true, false, not, ◌&&◌, eqb, ltb, leb, List, [], ◌∷◌, length, drop, replicate, refl, ap, ◌∙◌, ap₂, arith, length-drop, length-take, length-take-le, ltb-true, lt-ltb, eq-eqb, eqb-true, le-leb, leb-true}
use borrow.Author.Tests.{lt-leb, not-true}
use Rattle.pageset.specs.declared.Window.{Window}
use Rattle.pageset.specs.declared.PageSet.{PageSet}
use Rattle.pageset.specs.Sets.{bit, mask_at, holds, rising, window_form, window_forms, normal_form, shown, member, zero_window, blank, normal}
use Rattle.pageset.specs.Says.{empty_set}

-- ---- tests

pub and_fst : (a b : Bool) → (a && b) ≡ true → a ≡ true
and_fst true b e = refl
and_fst false b e = e

pub and_snd : (a b : Bool) → (a && b) ≡ true → b ≡ true
and_snd true b e = e
and_snd false b e = absurd (let z : ◌≡◌ {A = ℕ} 0 1 = cc in omega arith)

pub and_both : (a b : Bool) → a ≡ true → b ≡ true → (a && b) ≡ true
and_both a b p q = rw (p, q)

pub and_left : (a b : Bool) → a ≡ false → (a && b) ≡ false
and_left a b p = rw p

pub and_right : (a b : Bool) → b ≡ false → (a && b) ≡ false
and_right true b p = p
and_right false b p = refl

pub clash : {A : Type 0} (b : Bool) → b ≡ true → b ≡ false → A
clash b p q = absurd (let z : ◌≡◌ {A = ℕ} 0 1 = cc in omega arith)

not_is : (b : Bool) → b ≡ false → not b ≡ true
not_is b e = rw e

-- ---- windows in order

-- the first index is at least lo, each later one above the one before it; no mask is 0, and each is of 64 bits
unfoldable pub Rises : ℕ → List Window → Type 0
Rises lo [] = Unit {0}
Rises lo (w ∷ ws) = (lo ≤ w.index) × (w.index < 67108864) × (0 < w.mask) × (w.mask < 2 ^ 64) × Rises (w.index + 1) ws

pub rises_fact : (lo : ℕ) (ws : List Window) → rising lo ws ≡ true → window_forms ws ≡ true → Rises lo ws
unfolding Rises rising window_forms
rises_fact lo [] r f = tt
rises_fact lo (w ∷ ws) r f =
    let g = and_fst (window_form w) (window_forms ws) f in
    let h = and_fst (ltb 0 w.mask && ltb w.mask (2 ^ 64)) (ltb w.index (2 ^ 26)) g in (
      leb-true lo w.index (and_fst (leb lo w.index) (rising (w.index + 1) ws) r),
      ltb-true w.index (2 ^ 26) (and_snd (ltb 0 w.mask && ltb w.mask (2 ^ 64)) (ltb w.index (2 ^ 26)) g),
      ltb-true 0 w.mask (and_fst (ltb 0 w.mask) (ltb w.mask (2 ^ 64)) h),
      ltb-true w.mask (2 ^ 64) (and_snd (ltb 0 w.mask) (ltb w.mask (2 ^ 64)) h),
      rises_fact (w.index + 1) ws (and_snd (leb lo w.index) (rising (w.index + 1) ws) r) (and_snd (window_form w) (window_forms ws) f),
    )

pub rising_test : (lo : ℕ) (ws : List Window) → Rises lo ws → rising lo ws ≡ true
unfolding Rises rising
rising_test lo [] r = refl
rising_test lo (w ∷ ws) r = and_both _ _ (le-leb lo w.index r.0) (rising_test (w.index + 1) ws r.4)

pub form_test : (w : Window) → 0 < w.mask → w.mask < 2 ^ 64 → w.index < 67108864 → window_form w ≡ true
form_test w a b c =
    and_both (ltb 0 w.mask && ltb w.mask (2 ^ 64)) (ltb w.index (2 ^ 26))
    (and_both (ltb 0 w.mask) (ltb w.mask (2 ^ 64)) (lt-ltb 0 w.mask a) (lt-ltb w.mask (2 ^ 64) b)) (lt-ltb w.index (2 ^ 26) c)

forms_test : (lo : ℕ) (ws : List Window) → Rises lo ws → window_forms ws ≡ true
unfolding Rises window_forms
forms_test lo [] r = refl
forms_test lo (w ∷ ws) r = and_both (window_form w) (window_forms ws) (form_test w r.2 r.3 r.1) (forms_test (w.index + 1) ws r.4)

-- ---- zero windows

blank_fact : (ws : List Window) → blank ws ≡ true → ws ≡ replicate (length ws) zero_window
unfolding blank
blank_fact [] b = refl
blank_fact (w ∷ ws) b =
    let g = and_fst (eqb w.index 0 && eqb w.mask 0) (blank ws) b in
    let i : w.index ≡ 0 = eqb-true w.index 0 (and_fst (eqb w.index 0) (eqb w.mask 0) g) in
    let m : w.mask ≡ 0 = eqb-true w.mask 0 (and_snd (eqb w.index 0) (eqb w.mask 0) g) in
    let z : w ≡ zero_window = λ j. record { index = i j; mask = m j } in
    ap₂ ◌∷◌ z (blank_fact ws (and_snd (eqb w.index 0 && eqb w.mask 0) (blank ws) b))

pub blank_test : (n : ℕ) → blank (replicate n zero_window) ≡ true
unfolding blank
blank_test zero = refl
blank_test (suc n) = blank_test n

-- ---- sets

-- the array's form: 32 windows, of which len count, and the others are zero
pub record Tidy (s : PageSet) : Type 0 where
  pub short : s.len ≤ 32
  pub whole : length s.windows ≡ 32
  pub rest : drop s.len s.windows ≡ replicate (32 - s.len) zero_window

pub record Normal (s : PageSet) : Type 0 where
  pub tidy : Tidy s
  pub rising : Rises 0 (shown s)
  pub no_zero : member s 0 ≡ false

pub shown_length : (s : PageSet) → Tidy s → length (shown s) ≡ s.len
shown_length s t = length-take-le s.len s.windows (omega (arith, t.short, t.whole))

module _ (s : PageSet) (e : normal s ≡ true) where
  abbrev tests : Bool
  tests = leb s.len 32 && eqb (length s.windows) 32 && blank (drop s.len s.windows)

  outer : tests ≡ true
  unfolding normal
  outer = and_fst tests (normal_form (shown s)) e

  -- the windows that a set in normal form shows are in normal form
  pub shown_form : normal_form (shown s) ≡ true
  unfolding normal
  shown_form = and_snd tests (normal_form (shown s)) e

  sizes : (leb s.len 32 && eqb (length s.windows) 32) ≡ true
  sizes = and_fst _ (blank (drop s.len s.windows)) outer

  whole_of : length s.windows ≡ 32
  whole_of = eqb-true _ 32 (and_snd (leb s.len 32) (eqb (length s.windows) 32) sizes)

  abbrev ordered : Bool
  ordered = leb (length (shown s)) 32 && rising 0 (shown s) && window_forms (shown s)

  ordered_of : ordered ≡ true
  unfolding normal_form
  ordered_of = and_fst ordered (not (holds (shown s) 0)) shown_form

  pub normal_fact : Normal s
  unfolding normal_form
  normal_fact =
      record {
        tidy = record {
          short = leb-true s.len 32 (and_fst (leb s.len 32) (eqb (length s.windows) 32) sizes);
          whole = whole_of;
          rest =
              blank_fact _ (and_snd (leb s.len 32 && eqb (length s.windows) 32) (blank (drop s.len s.windows)) outer)
              ∙ ap (λ (n : ℕ). replicate n zero_window) (length-drop s.len s.windows ∙ ap (λ (n : ℕ). n - s.len) whole_of);
        };
        rising =
            rises_fact 0 (shown s)
            (and_snd (leb (length (shown s)) 32) (rising 0 (shown s)) (and_fst (leb (length (shown s)) 32 && rising 0 (shown s)) (window_forms (shown s)) ordered_of))
            (and_snd (leb (length (shown s)) 32 && rising 0 (shown s)) (window_forms (shown s)) ordered_of);
        no_zero = not-true (holds (shown s) 0) (and_snd ordered (not (holds (shown s) 0)) shown_form);
      }

pub normal_test : (s : PageSet) → Normal s → normal s ≡ true
unfolding normal normal_form
normal_test s t =
    let l : length (shown s) ≤ 32 = omega (arith, shown_length s t.tidy, t.tidy.short) in
    and_both _ _
    (and_both _ _ (and_both _ _ (le-leb s.len 32 t.tidy.short) (eq-eqb _ 32 t.tidy.whole)) (ap blank t.tidy.rest ∙ blank_test (32 - s.len)))
    (and_both _ _ (and_both _ _ (and_both _ _ (le-leb (length (shown s)) 32 l) (rising_test 0 (shown s) t.rising)) (forms_test 0 (shown s) t.rising)) (not_is _ t.no_zero))

-- ---- the test, as the code makes it

module _ (s : PageSet) where
  pub too_many : 32 < s.len → normal s ≡ false
  unfolding normal
  too_many h = and_left _ (normal_form (shown s)) (and_left _ (blank (drop s.len s.windows)) (and_left _ (eqb (length s.windows) 32) (lt-leb s.len 32 h)))

  pub not_blank : blank (drop s.len s.windows) ≡ false → normal s ≡ false
  unfolding normal
  not_blank e = and_left _ (normal_form (shown s)) (and_right (leb s.len 32 && eqb (length s.windows) 32) _ e)

  -- the tests of order, in the grouping of the definition
  regroup : (a b c d : Bool) → (b && c) ≡ false → (a && b && c && d) ≡ false
  regroup true true c d e = and_left c d e
  regroup true false c d e = refl
  regroup false b c d e = refl

  pub not_ordered : (rising 0 (shown s) && window_forms (shown s)) ≡ false → normal s ≡ false
  unfolding normal normal_form
  not_ordered e =
      and_right (leb s.len 32 && eqb (length s.windows) 32 && blank (drop s.len s.windows)) _
      (regroup (leb (length (shown s)) 32) (rising 0 (shown s)) (window_forms (shown s)) (not (holds (shown s) 0)) e)

  pub but_zero : s.len ≤ 32 → length s.windows ≡ 32 → blank (drop s.len s.windows) ≡ true → (rising 0 (shown s) && window_forms (shown s)) ≡ true
      → not (holds (shown s) 0) ≡ normal s
  unfolding normal normal_form
  but_zero h w b e =
      let l : length (shown s) ≤ 32 = omega (arith, length-take s.len s.windows) in
      rw (le-leb s.len 32 h, eq-eqb (length s.windows) 32 w, b, le-leb (length (shown s)) 32 l, and_fst (rising 0 (shown s)) (window_forms (shown s)) e, and_snd (rising 0 (shown s)) (window_forms (shown s)) e)

-- the empty set is in normal form
pub empty_normal : normal empty_set ≡ true
unfolding normal blank normal_form rising window_forms holds bit mask_at
empty_normal = refl
