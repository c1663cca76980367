-- The pages of a set from the last down.
use Rattle.std.specs.Prelude.{◌≡◌, List, [], ◌∷◌, ◌++◌, cond, ℕ, ◌-◌, ◌<◌, eqb, take}
use Rattle.pageset.specs.declared.Window.{Window}
use Rattle.rules.specs.Pages.{pages_in}

-- the page is the last of the window's, and the rest is the window without it
pub record LastOf (w : Window) (page : ℕ) (rest : Window) : Type 0 where
  pub pages : pages_in (w ∷ []) ≡ pages_in (rest ∷ []) ++ page ∷ []
  pub index : rest.index ≡ w.index
  pub less : rest.mask < w.mask

-- what a walk has still to do: the pages of the first n windows, and then what is left of one window
unfoldable pub pages_left : List Window → ℕ → Window → List ℕ
pages_left ws n w = pages_in (take n ws ++ w ∷ [])

-- the window that the next page is in: w, or where that has none left the one below it
abbrev pub under : Window → Window → Window
under w below = cond (eqb w.mask 0) below w

-- a step of the walk yields the last page of that window; where it is the one below, that is begun
pub record Stepped (n : ℕ) (w below : Window) (page windows : ℕ) (rest : Window) : Type 0 where
  pub last : LastOf (under w below) page rest
  pub begun : windows ≡ cond (eqb w.mask 0) (n - 1) n
