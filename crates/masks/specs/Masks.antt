-- The windows of a set with masks of their own.
use Rattle.std.specs.Prelude.{ℕ, zero, suc, ◌+◌, ◌*◌, ◌<◌, ◌≡◌, List, [], ◌∷◌, Bool, true, cond, ◌&&◌, eqb, ltb, length, get_or}
use Rattle.std.specs.Int.Bits.{bit_or}
use Rattle.pageset.specs.Sets.{bit, mask_at, zero_window}
use Rattle.rules.specs.Records.{Pages}
use Rattle.rules.specs.Pages.{without}

-- the windows of a set with these masks; those without a page are left out
unfoldable pub given : Pages → List ℕ → Pages
given [] ms = []
given (w ∷ ws) [] = []
given (w ∷ ws) (m ∷ ms) = cond (ltb 0 m) (record { index = w.index; mask = m } ∷ given ws ms) (given ws ms)

-- each mask without what u holds of its window
unfoldable pub less_masks : Pages → Pages → List ℕ → List ℕ
less_masks [] u ms = ms
less_masks (w ∷ ws) u [] = []
less_masks (w ∷ ws) u (m ∷ ms) = without m (mask_at u w.index) ∷ less_masks ws u ms

-- the first n masks with the pages of others
unfoldable pub more_masks : ℕ → List ℕ → List ℕ → List ℕ
more_masks zero ms ks = ms
more_masks (suc n) [] ks = []
more_masks (suc n) (m ∷ ms) [] = m ∷ ms
more_masks (suc n) (m ∷ ms) (k ∷ ks) = bit_or m k ∷ more_masks n ms ks

-- the first n masks have no page
unfoldable pub no_masks : ℕ → List ℕ → Bool
no_masks zero ms = true
no_masks (suc n) [] = true
no_masks (suc n) (m ∷ ms) = eqb m 0 && no_masks n ms

-- bit by bit, the masks say f of the pages of their windows
abbrev pub Has : (ℕ → Bool) → Pages → List ℕ → Type 0
Has f ws ms = (i : ℕ) → i < length ws → (b : ℕ) → b < 64 → bit (get_or ms i 0) b ≡ f ((get_or ws i zero_window).index * 64 + b)
