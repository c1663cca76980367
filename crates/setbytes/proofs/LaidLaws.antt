-- A set by value and its windows determine each other: the set that windows make shows them, and is in normal form exactly as they are. Assumes nothing.
use Rattle.std.proofs.Common.{◌≡◌, ℕ, ◌+◌, ◌-◌, ◌≤◌, true, not, ◌&&◌, leb, length, drop, replicate, refl, ap, ◌∙◌, arith, length-append, length-take, take_at, drop_at, eq-eqb, le-leb, leb-true}
use lib.ListN.{length-replicate}
use Rattle.pageset.specs.declared.PageSet.{PageSet}
use Rattle.pageset.specs.Sets.{holds, rising, window_forms, normal_form, shown, zero_window, blank, normal}
use Rattle.pageset.proofs.FormLaws.{and_fst, and_both, Tidy, normal_fact, blank_test, shown_length}
pub use Rattle.pageset.proofs.FormLaws.{shown_form}
use Rattle.pageset.proofs.WalkLaws.{tidy_known}
use Rattle.rules.specs.Records.{Pages}
use Rattle.setbytes.specs.Laid.{set_laid}

-- ---- windows, and the set of them

pub says_laid : (ws : Pages) → shown (set_laid ws) ≡ ws
says_laid ws = take_at ws (replicate (32 - length ws) zero_window) (length ws) refl

module _ (ws : Pages) (h : length ws ≤ 32) where
  long : length (set_laid ws).windows ≡ 32
  long = length-append ws (replicate (32 - length ws) zero_window) ∙ ap (λ (n : ℕ). length ws + n) (length-replicate (32 - length ws) zero_window) ∙ omega arith

  rest : drop (length ws) (set_laid ws).windows ≡ replicate (32 - length ws) zero_window
  rest = drop_at ws (replicate (32 - length ws) zero_window) (length ws) refl

  laid_tidy : Tidy (set_laid ws)
  laid_tidy = record { short = h; whole = long; rest = rest }

-- windows in normal form are at most 32
pub few : (ws : Pages) → normal_form ws ≡ true → length ws ≤ 32
unfolding normal_form
few ws e =
    leb-true (length ws) 32
    (and_fst (leb (length ws) 32) (rising 0 ws) (and_fst (leb (length ws) 32 && rising 0 ws) (window_forms ws) (and_fst (leb (length ws) 32 && rising 0 ws && window_forms ws) (not (holds ws 0)) e)))

-- the set of windows in normal form is in normal form
pub laid_normal : (ws : Pages) → normal_form ws ≡ true → normal (set_laid ws) ≡ true
unfolding normal
laid_normal ws e =
    let h = few ws e in
    and_both _ _
    (and_both _ _ (and_both _ _ (le-leb (length ws) 32 h) (eq-eqb _ 32 (long ws h))) (ap blank (rest ws h) ∙ blank_test (32 - length ws)))
    (ap normal_form (says_laid ws) ∙ e)

-- ---- a set, and what it shows

module _ (s : PageSet) (e : normal s ≡ true) where
  tidy : Tidy s
  tidy = (normal_fact s e).tidy

  -- a set in normal form is that of the windows that it shows
  pub laid_says : set_laid (shown s) ≡ s
  laid_says =
      let n = shown_length s tidy in
      tidy_known (set_laid (shown s)) s (laid_tidy (shown s) (omega (arith, tidy.short))) tidy (says_laid (shown s))

-- a set that is laid out counts at most as many windows as there are
pub laid_few : (s : PageSet) → set_laid (shown s) ≡ s → length s.windows ≡ 32 → s.len ≤ 32
laid_few s e l =
    let n : length (shown s) ≡ s.len = ap (λ (t : PageSet). t.len) e in
    omega (arith, length-take s.len s.windows)
