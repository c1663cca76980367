-- Windows of a set that rise lie from the first to the last, which are read where they stand: where these lie above or below some windows, the set has none of them.
use Rattle.std.specs.Prelude.{◌≡◌, ℕ, ◌+◌, ◌-◌, ◌*◌, ◌<◌, ◌≤◌, min, true, false, leb, List, [], ◌∷◌, length, get_or}
use mathlib.Core.Path.{refl, sym, ap, ◌∙◌}
use mathlib.Core.Option.{Option, none, some}
use native.Mathlib.Omega.{arith}
use borrow.Author.Tests.{leb-true, le-leb, ne_eqb}
use Rattle.octets.specs.Bytes.{be, part}
use Rattle.pageset.specs.declared.Window.{Window}
use Rattle.pageset.specs.Sets.{mask_at, rising, zero_window}
use Rattle.rules.specs.Lists.{is_some}
use Rattle.rules.specs.Records.{Pages, Segment}
use Rattle.rules.specs.Write.{pages_of}
use Rattle.rules.proofs.TableLaws.{and_fst, and_snd, and_both, clash}
use Rattle.rules.proofs.PageLaws.{mask_below, form_rising}
use Rattle.table.specs.Table.{count_of}
use Rattle.layout.specs.Tables.{commits_ok}
use Rattle.setbytes.specs.Laid.{windows_at}
use Rattle.setbytes.proofs.SetLaws.{set_at, length_windows, window_nth}
use Rattle.setbytes.proofs.WindowLaws.{window_at}
use Rattle.commits.specs.Places.{commit_at}
use Rattle.gifts.specs.Held.{Clear}
use Rattle.gifts.proofs.SetLaws.{row_normal, row_pages}

-- ---- the windows of a set lie from its first to its last

below_first : (ws : Pages) (lo hi : ℕ) → rising 0 ws ≡ true → hi < (get_or ws 0 zero_window).index → Clear lo hi ws
unfolding rising mask_at
below_first [] lo hi e h q a b = refl
below_first (w ∷ ws) lo hi e h q a b =
    mask_below w.index q (w ∷ ws) (omega arith) (and_both (le-leb w.index w.index (omega arith)) (and_snd (leb 0 w.index) (rising (w.index + 1) ws) e))

past : (lo q : ℕ) (w : Window) (ws : Pages) → rising lo (w ∷ ws) ≡ true → (get_or (w ∷ ws) (length ws) zero_window).index < q
    → (lo ≤ (get_or (w ∷ ws) (length ws) zero_window).index) × (mask_at (w ∷ ws) q ≡ 0)
unfolding rising mask_at
past lo q w [] e h = let l = leb-true lo w.index (and_fst (leb lo w.index) true e) in (l, rw (ne_eqb w.index q (omega arith)))
past lo q w (v ∷ ws) e h =
    let l = leb-true lo w.index (and_fst (leb lo w.index) (rising (w.index + 1) (v ∷ ws)) e) in
    let r = past (w.index + 1) q v ws (and_snd (leb lo w.index) (rising (w.index + 1) (v ∷ ws)) e) h in
    (omega (arith, r.0), rw (ne_eqb w.index q (omega (arith, r.0))) r.1)

above_last : (ws : Pages) (n lo hi : ℕ) → rising 0 ws ≡ true → length ws ≡ n → (get_or ws (n - 1) zero_window).index < lo → Clear lo hi ws
unfolding mask_at
above_last [] n lo hi e l h q a b = refl
above_last (w ∷ ws) n lo hi e l h q a b =
    let z : n - 1 ≡ length ws = omega arith in
    let k : (get_or (w ∷ ws) (length ws) zero_window).index < lo = rw z at h in
    (past 0 q w ws e (omega arith)).1

-- ---- the pages of a commit, as the code reads their first and last window

-- no segment, no window
pub clear_none : (o : Option Segment) (lo hi : ℕ) → is_some o ≡ false → Clear lo hi (pages_of o)
unfolding mask_at
clear_none none lo hi e q a b = refl
clear_none (some s) lo hi e q a b = absurd (clash refl e)

module _ (t : List ℕ) (ok : commits_ok t ≡ true) (i : ℕ) (l : i < count_of t) (at : ℕ) (p : at ≡ 2 + i * 722) (long : at + 722 ≤ length t) (has : is_some (commit_at t i).segment ≡ true)
    (n : ℕ) (m : n ≡ min (be (part (at + 79) 1 t)) 32) (lo hi : ℕ) where
  pub stand : pages_of (commit_at t i).segment ≡ windows_at n (at + 79 + 1) t
  stand = sym (row_pages t i at p has) ∙ set_at t (at + 79) (omega arith) n m

  many : length (pages_of (commit_at t i).segment) ≡ n
  many = ap length stand ∙ length_windows n (at + 79 + 1) t

  pub row_ups : rising 0 (pages_of (commit_at t i).segment) ≡ true
  row_ups = form_rising (pages_of (commit_at t i).segment) (row_normal t ok i l)

  nth_is : (j : ℕ) → j < n → (get_or (pages_of (commit_at t i).segment) j zero_window).index ≡ be (part (at + 79 + 1 + j * 12) 4 t)
  nth_is j h = ap (λ (ws : Pages). (get_or ws j zero_window).index) stand ∙ ap (λ (w : Window). w.index) (window_nth n (at + 79 + 1) t j h ∙ window_at (at + 79 + 1 + j * 12) t)

  pub clear_empty : n ≡ 0 → Clear lo hi (pages_of (commit_at t i).segment)
  unfolding mask_at
  clear_empty z q a b = none_at (pages_of (commit_at t i).segment) (many ∙ z)
    where
      none_at : (ws : Pages) → length ws ≡ 0 → mask_at ws q ≡ 0
      none_at [] e = refl
      none_at (w ∷ ws) e = absurd (omega arith)

  pub clear_above : (x : ℕ) → 0 < n → x ≡ be (part (at + 79 + 1) 4 t) → hi < x → Clear lo hi (pages_of (commit_at t i).segment)
  clear_above x h r g =
      let z : at + 79 + 1 + 0 * 12 ≡ at + 79 + 1 = omega arith in
      below_first (pages_of (commit_at t i).segment) lo hi row_ups (omega (arith, nth_is 0 h ∙ ap (λ (k : ℕ). be (part k 4 t)) z))

  pub clear_below : (x : ℕ) → 0 < n → x ≡ be (part (at + 79 + 1 + (n - 1) * 12) 4 t) → x < lo → Clear lo hi (pages_of (commit_at t i).segment)
  clear_below x h r g = above_last (pages_of (commit_at t i).segment) n lo hi row_ups many (omega (arith, nth_is (n - 1) (omega arith)))
