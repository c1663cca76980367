-- Lists of records: the first that passes a test, those that do, whether all do, whether any does.
use Rattle.std.specs.Prelude.{Bool, true, false, cond, ◌&&◌, ◌||◌, List, [], ◌∷◌}
use Rattle.std.proofs.Math.Option.{Option, none, some}

module _ {A : Type 0} where
  -- the first record that passes the test, or nothing
  unfoldable pub first : (A → Bool) → List A → Option A
  first f [] = none
  first f (x ∷ xs) = cond (f x) (some x) (first f xs)

  -- the records that pass the test, in their order
  unfoldable pub those : (A → Bool) → List A → List A
  those f [] = []
  those f (x ∷ xs) = cond (f x) (x ∷ those f xs) (those f xs)

  -- each record passes the test
  unfoldable pub all : (A → Bool) → List A → Bool
  all f [] = true
  all f (x ∷ xs) = f x && all f xs

  -- some record passes the test
  unfoldable pub any : (A → Bool) → List A → Bool
  any f [] = false
  any f (x ∷ xs) = f x || any f xs

  -- what may be missing is there
  abbrev pub is_some : Option A → Bool
  is_some none = false
  is_some (some x) = true

  -- what may be missing is not there
  abbrev pub is_none : Option A → Bool
  is_none none = true
  is_none (some x) = false

  -- a field that may be missing: where it is there, it passes the test
  abbrev pub given : (A → Bool) → Option A → Bool
  given f none = true
  given f (some x) = f x
