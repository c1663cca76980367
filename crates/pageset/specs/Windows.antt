-- What one turn of a walk over windows reads and writes.
use Rattle.std.specs.Prelude.{ℕ, ◌+◌, ◌-◌, ◌*◌, ◌^◌, min, cond, ◌==◌, bit_and, set}
use Rattle.pageset.specs.declared.Window.{Window}
use Rattle.pageset.specs.declared.PageSet.{PageSet}
use Rattle.pageset.specs.declared.walk.Turn.{Turn}

-- the bits of window q that stand for pages up to n
unfoldable pub up_to : ℕ → ℕ → ℕ
up_to n q = 2 ^ min 64 (n + 1 - q * 64) - 1

-- the bits of window q that stand for pages from lo to hi
unfoldable pub span_mask : ℕ → ℕ → ℕ → ℕ
span_mask lo hi q = bit_and (up_to hi q) ((2 ^ 64 - 1) - up_to (lo - 1) q)

-- the window past all others, which holds no page
abbrev pub past_all : Window
past_all = record { index = 67108864; mask = 0 }

-- the mask of a window if its index is q, else 0
abbrev pub mask_if : Window → ℕ → ℕ
mask_if w q = cond (w.index == q) w.mask 0

-- a turn at index q, and at the lower of the two indexes
abbrev pub turn_at : ℕ → Window → Window → Turn
turn_at q x y = record {
  index = q;
  left = mask_if x q;
  right = mask_if y q;
  lefts = cond (x.index == q) 1 0;
  rights = cond (y.index == q) 1 0;
}

abbrev pub turn_of : Window → Window → Turn
turn_of x y = turn_at (min x.index y.index) x y

-- the window of index q and that mask, and the zero window where the mask is 0
abbrev pub window_of : ℕ → ℕ → Window
window_of q m = cond (m == 0) (record { index = 0; mask = 0 }) (record { index = q; mask = m })

-- a set with that window after those that count, and as it was where the mask is 0
abbrev pub pushed : ℕ → ℕ → PageSet → PageSet
pushed q m s = record { len = s.len + cond (m == 0) 0 1; windows = set s.windows s.len (window_of q m) }
