-- Arguments that may be missing.
use Rattle.std.specs.Prelude.{ℕ, cond, ◌==◌}
use Rattle.std.proofs.Math.Option.{Option, none, some}

-- a flag 0 says that the number is missing, any other that it is there
unfoldable pub flagged : ℕ → ℕ → Option ℕ
flagged flag n = cond (flag == 0) none (some n)
