-- Numbers below a bound that pass a test: how many, the lowest, the highest, whether any does, whether all do.
use Rattle.std.specs.Prelude.{ℕ, zero, suc, ◌+◌, Bool, true, false, cond, ◌&&◌, ◌||◌}
use Rattle.std.proofs.Math.Option.{Option, none, some}

-- how many numbers below n pass the test
unfoldable pub count : (ℕ → Bool) → ℕ → ℕ
count f zero = 0
count f (suc n) = cond (f n) 1 0 + count f n

-- the highest number below n that passes the test, or nothing
unfoldable pub highest : (ℕ → Bool) → ℕ → Option ℕ
highest f zero = none
highest f (suc n) = cond (f n) (some n) (highest f n)

-- the first of two that is there
abbrev pub or_else : Option ℕ → Option ℕ → Option ℕ
or_else none o = o
or_else (some m) o = some m

-- the lowest number below n that passes the test, or nothing
unfoldable pub lowest : (ℕ → Bool) → ℕ → Option ℕ
lowest f zero = none
lowest f (suc n) = or_else (lowest f n) (cond (f n) (some n) none)

-- some number below n passes the test
unfoldable pub any_of : (ℕ → Bool) → ℕ → Bool
any_of f zero = false
any_of f (suc n) = f n || any_of f n

-- each number below n passes the test
unfoldable pub all_of : (ℕ → Bool) → ℕ → Bool
all_of f zero = true
all_of f (suc n) = f n && all_of f n
