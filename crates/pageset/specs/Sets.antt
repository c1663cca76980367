-- Page sets, in the words of document 01: "A set is held as windows: page p is bit p mod 64 of window p div 64. Normal form: windows
-- strictly rising, no mask zero, no page 0." At most 32 windows.
use Rattle.std.specs.Prelude.{ℕ, ◌+◌, ◌/◌, ◌%◌, ◌^◌, Bool, true, cond, not, ◌&&◌, List, [], ◌∷◌, length, take, drop, ◌==◌, nat_le, nat_lt}
use Rattle.pageset.specs.declared.Window.{Window}
use Rattle.pageset.specs.declared.PageSet.{PageSet}

-- bit b of a mask
unfoldable pub bit : ℕ → ℕ → Bool
bit m b = m / 2 ^ b % 2 == 1

-- the mask of window q, and 0 where there is none
unfoldable pub mask_at : List Window → ℕ → ℕ
mask_at [] q = 0
mask_at (w ∷ ws) q = cond (w.index == q) w.mask (mask_at ws q)

-- page p is bit p mod 64 of window p div 64
unfoldable pub holds : List Window → ℕ → Bool
holds ws p = bit (mask_at ws (p / 64)) (p % 64)

-- windows strictly rising: the first index is at least lo, each later one above the one before it
unfoldable pub rising : ℕ → List Window → Bool
rising lo [] = true
rising lo (w ∷ ws) = nat_le lo w.index && rising (w.index + 1) ws

-- no mask zero; a mask has 64 bits, and the last page is 2^32-1, so the last window is 2^26-1
abbrev pub window_form : Window → Bool
window_form w = nat_lt 0 w.mask && nat_lt w.mask (2 ^ 64) && nat_lt w.index (2 ^ 26)

unfoldable pub window_forms : List Window → Bool
window_forms [] = true
window_forms (w ∷ ws) = window_form w && window_forms ws

-- normal form: at most 32 windows, strictly rising, no mask zero, no page 0
unfoldable pub normal_form : List Window → Bool
normal_form ws = nat_le (length ws) 32 && rising 0 ws && window_forms ws && not (holds ws 0)

-- ---- a set by value: an array of 32 windows of which the first `len` count; those past them are zero

-- the windows that count
abbrev pub shown : PageSet → List Window
shown s = take s.len s.windows

-- whether page p is in the set
abbrev pub member : PageSet → ℕ → Bool
member s p = holds (shown s) p

-- the window of no page
abbrev pub zero_window : Window
zero_window = record { index = 0; mask = 0 }

-- every window is zero
unfoldable pub blank : List Window → Bool
blank [] = true
blank (w ∷ ws) = w.index == 0 && w.mask == 0 && blank ws

-- the set is in normal form, and what does not count is zero
unfoldable pub normal : PageSet → Bool
normal s = nat_le s.len 32 && length s.windows == 32 && blank (drop s.len s.windows) && normal_form (shown s)
