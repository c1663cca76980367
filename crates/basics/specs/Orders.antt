-- The orders of keys: a three-way comparison for each kind of field, one that goes by a first field and then by a second, and document 01's key orders.
use Rattle.std.specs.Prelude.{ℕ, Bool, true, false, List, [], ◌∷◌}
use Prim.Native.Nat.{compare, Ordering}

-- what a later field says counts only where the earlier fields are equal
abbrev pub next : Ordering → Ordering → Ordering
next Ordering.lt o = Ordering.lt
next Ordering.eq o = o
next Ordering.gt o = Ordering.gt

-- strictly below
abbrev pub is_lt : Ordering → Bool
is_lt Ordering.lt = true
is_lt Ordering.eq = false
is_lt Ordering.gt = false

-- a number up
abbrev pub up : ℕ → ℕ → Ordering
up a b = compare a b

-- a number down
abbrev pub down : ℕ → ℕ → Ordering
down a b = compare b a

-- byte by byte, a proper prefix first: identifiers; and volumes and tags, key up
unfoldable pub bytes : List ℕ → List ℕ → Ordering
bytes [] [] = Ordering.eq
bytes [] (y ∷ ys) = Ordering.lt
bytes (x ∷ xs) [] = Ordering.gt
bytes (x ∷ xs) (y ∷ ys) = next (compare x y) (bytes xs ys)

-- a pair: by its first part, then by its second
abbrev pub both : {A B : Type 0} → (A → A → Ordering) → (B → B → Ordering) → A × B → A × B → Ordering
both f g a b = next (f a.0 b.0) (g a.1 b.1)

-- commits and checkpoints: log up, LSN down
abbrev pub log_lsn : List ℕ × ℕ → List ℕ × ℕ → Ordering
log_lsn = both bytes down

-- index: log up, page up, LSN down
abbrev pub log_page_lsn : List ℕ × (ℕ × ℕ) → List ℕ × (ℕ × ℕ) → Ordering
log_page_lsn = both bytes (both up down)

-- presence: segment up, page down
abbrev pub sid_page : List ℕ × ℕ → List ℕ × ℕ → Ordering
sid_page = both bytes down
