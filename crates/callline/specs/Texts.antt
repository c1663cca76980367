-- Texts taken apart: the pieces of a text between the bytes of one kind, and what a text begins with.
use Rattle.std.specs.Prelude.{ℕ, suc, ◌+◌, ◌-◌, Bool, true, false, cond, ◌&&◌, List, [], ◌∷◌, length, take, drop, ◌==◌, nat_lt}

-- a text is a list of bytes
abbrev pub Text : Type 0
Text = List ℕ

-- a byte in front of the first piece
unfoldable pub onto : ℕ → List Text → List Text
onto b [] = (b ∷ []) ∷ []
onto b (p ∷ ps) = (b ∷ p) ∷ ps

-- the pieces of a text between the bytes that equal s: the whole text where there is no such byte
unfoldable pub split : ℕ → Text → List Text
split s [] = [] ∷ []
split s (b ∷ t) = cond (b == s) ([] ∷ split s t) (onto b (split s t))

-- how many bytes stand before the first that equals s
unfoldable pub before : ℕ → Text → ℕ
before s [] = 0
before s (b ∷ t) = cond (b == s) 0 (suc (before s t))

-- the pieces that follow the one that ends at a place: none where the text ends there
unfoldable pub pieces_after : ℕ → Text → ℕ → List Text
pieces_after s t e = cond (nat_lt e (length t)) (split s (drop (e + 1) t)) []

-- whether a text begins with another
unfoldable pub starts : Text → Text → Bool
starts [] t = true
starts (k ∷ ks) [] = false
starts (k ∷ ks) (b ∷ t) = cond (b == k) (starts ks t) false

-- whether two texts are the same
unfoldable pub is_text : Text → Text → Bool
is_text k t = length t == length k && starts k t

-- the part of a text from one place up to another
abbrev pub between : ℕ → ℕ → Text → Text
between from to t = take (to - from) (drop from t)
