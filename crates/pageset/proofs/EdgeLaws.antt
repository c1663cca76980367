-- The first and the last window of a set, and with them its first and its last page. Assumes nothing.
use Rattle.std.proofs.Common.{◌≡◌, ℕ, zero, suc, ◌+◌, ◌-◌, ◌*◌, ◌/◌, ◌%◌, ◌^◌, ◌<◌, ◌≤◌, true, false, not, ◌⊎◌, List, [], ◌∷◌, length, get_or, take, sym, refl, ap, ◌∙◌, inl, inr, arith, get_or-take}
use mathlib.Core.Option.{none, some}
use lib.Count.{count_trailing_zeros, count_leading_zeros}
use Rattle.pageset.specs.declared.Window.{Window}
use Rattle.pageset.specs.declared.PageSet.{PageSet}
use Rattle.pageset.specs.Sets.{bit, mask_at, holds, shown, member, zero_window}
use Rattle.pageset.specs.Counts.{lowest, highest, any_of}
use Rattle.pageset.proofs.BitLaws.{bit_none, Lowest, trailing_lowest, Highest, leading_highest}
use Rattle.pageset.proofs.FormLaws.{Rises, Normal, shown_length}
use Rattle.pageset.proofs.WindowLaws.{lt_or, mask_nil, mask_same, mask_other, mask_below}
use Rattle.pageset.proofs.WalkLaws.{rises_at}
use Rattle.pageset.proofs.CountLaws.{lowest_none, lowest_is, highest_none, highest_is, any_yes, any_no}

-- window i of a list in order: its index is at least lo and has 26 bits, its mask stands at its index, and is not 0
pub record Nth (lo : ℕ) (xs : List Window) (w : Window) : Type 0 where
  pub low : lo ≤ w.index
  pub high : w.index < 67108864
  pub here : mask_at xs w.index ≡ w.mask
  pub some : 0 < w.mask
  pub fits : w.mask < 2 ^ 64

pub nth : (lo : ℕ) (xs : List Window) (i : ℕ) → Rises lo xs → i < length xs → Nth lo xs (get_or xs i zero_window)
unfolding Rises
nth lo [] i r h = absurd (omega arith)
nth lo (w ∷ ws) zero r h = record { low = r.0; high = r.1; here = mask_same w ws w.index refl; some = r.2; fits = r.3 }
nth lo (w ∷ ws) (suc i) r h =
    let n = nth (w.index + 1) ws i r.4 (omega arith) in
    record { low = omega (arith, r.0, n.low); high = n.high; here = mask_other w ws _ (λ e. omega (arith, n.low)) ∙ n.here; some = n.some; fits = n.fits }

-- no window stands above the last
past : (lo : ℕ) (xs : List Window) (i : ℕ) → Rises lo xs → i + 1 ≡ length xs → (q : ℕ) → (get_or xs i zero_window).index < q → mask_at xs q ≡ 0
unfolding Rises
past lo [] i r h q l = absurd (omega arith)
past lo (w ∷ []) zero r h q l = mask_other w [] q (λ e. omega arith) ∙ mask_nil q
past lo (w ∷ v ∷ ws) zero r h q l = absurd (omega arith)
past lo (w ∷ ws) (suc i) r h q l =
    let n = nth (w.index + 1) ws i r.4 (omega arith) in
    mask_other w ws q (λ e. omega (arith, n.low)) ∙ past (w.index + 1) ws i r.4 (omega arith) q l

-- nor below the first
below : (lo : ℕ) (xs : List Window) → Rises lo xs → 0 < length xs → (q : ℕ) → q < (get_or xs 0 zero_window).index → mask_at xs q ≡ 0
unfolding Rises
below lo [] r h q l = absurd (omega arith)
below lo (w ∷ ws) r h q l = mask_below w.index (w ∷ ws) q (omega arith, r.1, r.2, r.3, r.4) l

module _ (s : PageSet) (t : Normal s) where
  pub shown_at : (i : ℕ) → i < s.len → Nth 0 (shown s) (get_or s.windows i zero_window)
  shown_at i h =
      rw get_or-take at (nth 0 (shown s) i t.rising (rw (shown_length s t.tidy) h))

  pub no_pages : s.len ≡ 0 → (k : ℕ) → member s k ≡ false
  unfolding holds
  no_pages e k = ap (λ (n : ℕ). bit (mask_at (take n s.windows) (k / 64)) (k % 64)) e ∙ ap (λ (m : ℕ). bit m (k % 64)) (mask_nil (k / 64)) ∙ bit_none (k % 64)

  -- page b of window i
  module _ (i : ℕ) (h : i < s.len) where
    abbrev win : Window
    win = get_or s.windows i zero_window

    at_page : (k : ℕ) → k / 64 ≡ win.index → member s k ≡ bit win.mask (k % 64)
    unfolding holds
    at_page k e = ap (λ (q : ℕ). bit (mask_at (shown s) q) (k % 64)) e ∙ ap (λ (m : ℕ). bit m (k % 64)) (shown_at i h).here

    page_of_lem : (b : ℕ) → b < 64 → member s (win.index * 64 + b) ≡ bit win.mask b
    page_of_lem b l =
        let d : (win.index * 64 + b) / 64 ≡ win.index = omega arith in
        let m : (win.index * 64 + b) % 64 ≡ b = omega arith in
        at_page (win.index * 64 + b) d ∙ ap (bit win.mask) m

  none_at : (k : ℕ) → mask_at (shown s) (k / 64) ≡ 0 → member s k ≡ false
  unfolding holds
  none_at k e = ap (λ (m : ℕ). bit m (k % 64)) e ∙ bit_none (k % 64)

  module _ (h : 0 < s.len) where
    low : Lowest 64 (win 0 h).mask (count_trailing_zeros 64 (win 0 h).mask)
    low = trailing_lowest 64 (win 0 h).mask (shown_at 0 h).some (shown_at 0 h).fits

    pub first_small : count_trailing_zeros 64 (get_or s.windows 0 zero_window).mask < 64
    first_small = low.within

    pub first_in : member s ((get_or s.windows 0 zero_window).index * 64 + count_trailing_zeros 64 (get_or s.windows 0 zero_window).mask) ≡ true
    first_in = page_of_lem 0 h _ low.within ∙ low.set

    pub first_least : (k : ℕ) → k < (get_or s.windows 0 zero_window).index * 64 + count_trailing_zeros 64 (get_or s.windows 0 zero_window).mask → member s k ≡ false
    first_least k l = go (lt_or (k / 64) (win 0 h).index)
      where
        go : (k / 64 < (win 0 h).index) ⊎ ((win 0 h).index ≤ k / 64) → member s k ≡ false
        go (inl a) = none_at k (below 0 (shown s) t.rising (rw (shown_length s t.tidy) h) (k / 64) (rw get_or-take a))
        go (inr a) =
            let e : k / 64 ≡ (win 0 h).index = omega (arith, low.within) in
            at_page 0 h k e ∙ low.clear (k % 64) (omega arith)

    abbrev end : ℕ
    end = s.len - 1

    last_here : end < s.len
    last_here = omega arith

    abbrev top : Window
    top = get_or s.windows end zero_window

    pub high : (b : ℕ) × (count_leading_zeros 64 (get_or s.windows (s.len - 1) zero_window).mask + b + 1 ≡ 64) × Highest (get_or s.windows (s.len - 1) zero_window).mask b
    high = leading_highest 64 top.mask (shown_at end last_here).some (shown_at end last_here).fits

    last_in : member s ((get_or s.windows (s.len - 1) zero_window).index * 64 + (63 - count_leading_zeros 64 (get_or s.windows (s.len - 1) zero_window).mask)) ≡ true
    last_in =
        let e : 63 - count_leading_zeros 64 top.mask ≡ high.0 = omega (arith, high.1) in
        page_of_lem end last_here _ (omega (arith, high.1)) ∙ ap (bit top.mask) e ∙ high.2.set

    last_greatest : (k : ℕ) → (get_or s.windows (s.len - 1) zero_window).index * 64 + (63 - count_leading_zeros 64 (get_or s.windows (s.len - 1) zero_window).mask) < k → member s k ≡ false
    last_greatest k l = go (lt_or top.index (k / 64))
      where
        go : (top.index < k / 64) ⊎ (k / 64 ≤ top.index) → member s k ≡ false
        go (inl a) = none_at k (past 0 (shown s) end t.rising (omega (arith, shown_length s t.tidy)) (k / 64) (rw (get_or-take s.len s.windows end zero_window last_here) a))
        go (inr a) =
            let e : k / 64 ≡ top.index = omega (arith, high.1) in
            at_page end last_here k e ∙ high.2.clear (k % 64) (omega (arith, high.1))

    pub first_lowest : some ((get_or s.windows 0 zero_window).index * 64 + count_trailing_zeros 64 (get_or s.windows 0 zero_window).mask) ≡ lowest (member s) (2 ^ 32)
    first_lowest = lowest_is (member s) (2 ^ 32) _ (omega (arith, rises_at s t 0 h, low.within)) first_in first_least

    pub last_highest : some ((get_or s.windows (s.len - 1) zero_window).index * 64 + (63 - count_leading_zeros 64 (get_or s.windows (s.len - 1) zero_window).mask)) ≡ highest (member s) (2 ^ 32)
    last_highest = highest_is (member s) (2 ^ 32) _ (omega (arith, rises_at s t end last_here)) last_in last_greatest

  pub none_lowest : s.len ≡ 0 → none ≡ lowest (member s) (2 ^ 32)
  none_lowest e = lowest_none (member s) (2 ^ 32) (no_pages e)

  pub none_highest : s.len ≡ 0 → none ≡ highest (member s) (2 ^ 32)
  none_highest e = highest_none (member s) (2 ^ 32) (no_pages e)

  pub no_page : s.len ≡ 0 → true ≡ not (any_of (member s) (2 ^ 32))
  no_page e = sym (ap not (any_no (member s) (2 ^ 32) (λ k h. no_pages e k)))

  pub some_page : (s.len ≡ 0 → ⊥) → false ≡ not (any_of (member s) (2 ^ 32))
  some_page n =
      let h : 0 < s.len = omega arith in
      sym (ap not (any_yes (member s) (2 ^ 32) _ (omega (arith, rises_at s t 0 h, first_small h)) (first_in h)))
