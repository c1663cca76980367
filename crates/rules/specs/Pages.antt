-- Page sets, held as windows: page p is bit p mod 64 of window p div 64 (`holds`, and the normal form, are the page set crate's).
use Rattle.std.specs.Prelude.{ℕ, zero, suc, ◌-◌, ◌*◌, ◌/◌, ◌%◌, ◌^◌, Bool, true, false, cond, ◌&&◌, List, [], ◌∷◌, ◌++◌, map, length, ◌==◌, bit_and, bit_or, bit_xor, nat_le, nat_lt}
use Prim.Native.Nat.{compare, Ordering}
use Rattle.std.proofs.Math.Option.{Option, none, some}
use Rattle.basics.specs.Answers.{Answer, done, ask, ◌>>=◌, ◌>>◌}
use Rattle.basics.specs.Numbers.{counts}
use Rattle.pageset.specs.declared.Window.{Window}
use Rattle.pageset.specs.Sets.{bit, mask_at}
use Rattle.rules.specs.Lists.{those}
use Rattle.rules.specs.Records.{Pages}

-- n numbers from a on
unfoldable pub numbers : ℕ → ℕ → List ℕ
numbers a zero = []
numbers a (suc n) = a ∷ numbers (suc a) n

-- the pages of a set, rising: of each window those whose bit is set
unfoldable pub pages_in : Pages → List ℕ
pages_in [] = []
pages_in (w ∷ s) = those (λ p. bit w.mask (p % 64)) (numbers (w.index * 64) 64) ++ pages_in s

-- the number of pages of a set
abbrev pub size : Pages → ℕ
size s = length (pages_in s)

-- the first of a list, or nothing
abbrev pub head : List ℕ → Option ℕ
head [] = none
head (p ∷ ps) = some p

-- the first page of a set, or nothing
abbrev pub first_page : Pages → Option ℕ
first_page s = head (pages_in s)

-- a set without windows
abbrev pub is_empty : Pages → Bool
is_empty [] = true
is_empty (w ∷ s) = false

-- each window's mask anew, without the windows that this empties
unfoldable pub masked : (ℕ → ℕ → ℕ) → Pages → Pages
masked f [] = []
masked f (w ∷ s) = cond (nat_lt 0 (f w.index w.mask)) (record { index = w.index; mask = f w.index w.mask } ∷ masked f s) (masked f s)

-- the mask of window q, without what lies above page n
abbrev pub up_to : ℕ → ℕ → ℕ → ℕ
up_to n q m = cond (nat_lt q (n / 64)) m (cond (q == n / 64) (m % 2 ^ suc (n % 64)) 0)

-- truncating to n removes pages above n (count 0 empties)
unfoldable pub truncated : Pages → ℕ → Pages
truncated s n = masked (up_to n) s

-- `cut` gives the common pages
unfoldable pub common : Pages → Pages → Pages
common s u = masked (λ q m. bit_and m (mask_at u q)) s

-- the bits of m that k has not
abbrev pub without : ℕ → ℕ → ℕ
without m k = bit_xor m (bit_and m k)

-- `cut` removes the common pages from the left set
unfoldable pub minus : Pages → Pages → Pages
minus s u = masked (λ q m. without m (mask_at u q)) s

-- the pages of a set from a to b
unfoldable pub span : ℕ → ℕ → Pages → Pages
unfolding truncated minus
span a b s = minus (truncated s b) (truncated s (a - 1))

-- the mask of window q, without what lies below page a or above page b
abbrev pub between : ℕ → ℕ → ℕ → ℕ
between a b q = without (up_to b q (2 ^ 64 - 1)) (up_to (a - 1) q (2 ^ 64 - 1))

-- the pages from a to b, as windows a div 64 to b div 64
unfoldable pub range_of : ℕ → ℕ → Pages
range_of a b = map (λ (q : ℕ). record { index = q; mask = between a b q }) (numbers (a / 64) (suc (b / 64 - a / 64)))

-- a built range of pages; 22 where it needs over 32 windows
unfoldable pub built_range : ℕ → ℕ → Answer Pages
built_range a b = do
  ask (counts a && counts b) 1
  ask (nat_le a b) 2
  ask (nat_le (suc (b / 64 - a / 64)) 32) 22
  done (range_of a b)

-- a window put in, in its place or joined with the one that is there
abbrev pub joined : Ordering → Window → Window → Pages → Pages → Pages
joined Ordering.lt w v s more = w ∷ v ∷ s
joined Ordering.eq w v s more = record { index = v.index; mask = bit_or w.mask v.mask } ∷ s
joined Ordering.gt w v s more = v ∷ more

-- a window put into a set
unfoldable pub with_window : Window → Pages → Pages
with_window w [] = w ∷ []
with_window w (v ∷ s) = joined (compare w.index v.index) w v s (with_window w s)

-- the pages of either set
unfoldable pub union : Pages → Pages → Pages
union [] u = u
union (w ∷ s) u = with_window w (union s u)
