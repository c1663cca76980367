-- The invariant: of the n bytes all but the first `left` have gone up, and the rest is as it was; the measure: `left`.
use Rattle.std.proofs.Common.{◌+◌, ◌-◌, ◌≡◌, ◌≤◌, length}
use Rattle.octets.specs.Bytes.{part, put}
use Rattle.octets.proofs.move_up.Given as goal

abbrev pub invariant-loop-left : goal.invariant-loop-left
invariant-loop-left l = record {
  few : l.left ≤ l.n;
  size : length l.s ≡ length l.initial.s;
  gone : l.s ≡ put (l.at + l.by + l.left) (part (l.at + l.left) (l.n - l.left) l.initial.s) l.initial.s;
}

abbrev pub decreases-loop-left : goal.decreases-loop-left
decreases-loop-left l = l.left
