-- The order of numbers and of byte strings.
use Prim.Native.Nat.{ℕ, Ordering}
use Rattle.std.specs.Prelude.{Bool, true, false, cond, List, [], ◌∷◌, ltb}
use Rattle.std.specs.declared.cmp.Ordering.{Ordering as Order}
use Rattle.std.specs.declared.cmp.Ordering.TheVariants.{Less, Equal, Greater}

-- how two numbers stand
unfoldable pub order : ℕ → ℕ → Order
order m n = cond (ltb m n) Less (cond (ltb n m) Greater Equal)

-- the first answer decides, unless it is Equal
unfoldable pub then_by : Order → Order → Order
then_by Less o = Less
then_by Equal o = o
then_by Greater o = Greater

-- how two byte strings stand: the first byte that differs decides, and a proper prefix is below
unfoldable pub lex : List ℕ → List ℕ → Order
lex [] [] = Equal
lex [] (y ∷ ys) = Less
lex (x ∷ xs) [] = Greater
lex (x ∷ xs) (y ∷ ys) = then_by (order x y) (lex xs ys)

-- the answer with its sides changed
unfoldable pub turned : Order → Order
turned Less = Greater
turned Equal = Equal
turned Greater = Less

-- the same answer as the library's comparison of numbers gives it
abbrev pub ordering : Order → Ordering
ordering Less = Ordering.lt
ordering Equal = Ordering.eq
ordering Greater = Ordering.gt

-- strictly below
abbrev pub is_less : Order → Bool
is_less Less = true
is_less Equal = false
is_less Greater = false

-- the same
abbrev pub is_equal : Order → Bool
is_equal Less = false
is_equal Equal = true
is_equal Greater = false
