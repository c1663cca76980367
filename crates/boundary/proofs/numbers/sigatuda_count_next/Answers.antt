-- The call by value answers the rule, and its answer is put as the reply. Assumes nothing.
use Rattle.std.proofs.Common.{ℕ, ap}
use Rattle.arguments.specs.Replies.{given}
use Rattle.boundary.proofs.numbers.sigatuda_count_next.Goals as goal

pub returns : goal.returns
returns c = ap (λ (n : ℕ). (given, n)) c.saturating_incr.ensures
