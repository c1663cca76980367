-- Records one after another.
use Rattle.std.specs.Prelude.{List, [], ◌∷◌, ◌++◌, ℕ}

-- the bytes of each element, one after another
unfoldable pub flat : {A : Type 0} → (A → List ℕ) → List A → List ℕ
flat e [] = []
flat e (a ∷ xs) = e a ++ flat e xs
