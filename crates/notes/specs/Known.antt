-- What the notes say of the pages that are held.
use Rattle.std.specs.Prelude.{ℕ, ◌+◌, ◌*◌, ◌/◌, ◌%◌, ◌<◌, ◌≡◌, Bool, false, ◌&&◌, ◌||◌, List, Option, None, Some, eqb, get_or}
use Rattle.pageset.specs.Sets.{bit}
use Rattle.notes.specs.declared.Notes.{Notes}

-- the mark of a window
abbrev pub marked : List ℕ → ℕ → Bool
marked marks q = bit (get_or marks (q / 64 % 64) 0) (q % 64)

-- a mask has just the pages of window q that are held
abbrev pub Of : (ℕ → Bool) → ℕ → ℕ → Type 0
Of held q mask = (b : ℕ) → b < 64 → bit mask b ≡ held (q * 64 + b)

-- each place has the held pages of its window; a window without a mark has none
pub record Known (held : ℕ → Bool) (n : Notes) : Type 0 where
  pub exact : (s : ℕ) → s < 64 → Of held (get_or n.tags s 0 * 64 + s) (get_or n.masks s 0)
  pub free : (q : ℕ) → marked n.marks q ≡ false → Of held q 0

-- what is told of a window, if it is known, is so
abbrev pub Tells : (ℕ → Bool) → ℕ → Option ℕ → Type 0
Tells held q None = Unit {0}
Tells held q (Some mask) = Of held q mask

-- the pages that are held once a commit with these pages of window q is met
abbrev pub and_held : (ℕ → Bool) → ℕ → ℕ → ℕ → Bool
and_held held q mask p = held p || (eqb q (p / 64) && bit mask (p % 64))

-- whatever pages the notes were of, they tell so, and become those of what is held then
abbrev pub AsNoted : ℕ → ℕ → Notes → Notes → Option ℕ → Type 0
AsNoted q mask n n' r = (held : ℕ → Bool) → Known held n → Tells held q r × Known (and_held held q mask) n'
