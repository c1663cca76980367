-- The invariant: n commits have the first i ranges, at most 65535 each. Assumes nothing.
use Rattle.std.proofs.Common.{◌≡◌, ◌*◌, ◌≤◌, length}
use Rattle.listcalls.specs.Runs.{first_commits}
use Rattle.listcalls.proofs.count_commits.Given as goal

abbrev pub invariant-loop-i : goal.invariant-loop-i
invariant-loop-i l = (l.n ≡ length (first_commits l.commits l.i l.path)) × (l.n ≤ l.i * 65535)
