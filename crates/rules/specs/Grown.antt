-- Tables grown from fresh ones by calls, while no stored commit is overwritten by one lacking any of its pages.
use Rattle.std.specs.Prelude.{◌≡◌, ℕ, true}
use Rattle.rules.specs.Calls.{Tables, Change, fresh, does, typed}
use Rattle.rules.specs.Demand.{NoPageLost}

-- fresh, or after a call on grown tables
pub data Grown : Tables → Type 0 where
  from_fresh : (v c k e p g : ℕ) → Grown (fresh v c k e p g)
  by_call : (t : Tables) (c : Change) → Grown t → typed c ≡ true → NoPageLost t.logs.commits (does t c).1.logs.commits → Grown (does t c).1
