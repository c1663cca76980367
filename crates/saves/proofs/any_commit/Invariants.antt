-- Row by row. The invariant: the commits from i on decide (`Left`).
use Rattle.saves.proofs.Asks.{Left}
use Rattle.saves.proofs.any_commit.Given as goal

abbrev pub invariant-loop-i : goal.invariant-loop-i
invariant-loop-i l = Left l.commits l.sid l.i
