-- The invariant: the ranges kept so far are those of the first i that do not name the log, and the places behind them are as they were.
use Rattle.std.proofs.Common.{◌≡◌, ◌≤◌, length, take, drop}
use Rattle.paths.specs.Left.{others}
use Rattle.paths.proofs.without.Given as goal

abbrev pub invariant-loop-i : goal.invariant-loop-i
invariant-loop-i l =
    (l.n ≤ l.i) × (length l.kept ≡ 8) × (take l.n l.kept ≡ others l.log (take l.i l.path)) × (drop l.n l.kept ≡ drop l.n l.path)
