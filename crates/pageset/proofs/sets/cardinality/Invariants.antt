-- The ones of the masks passed, and those of the masks left, are the ones of them all, which count the pages. Each mask has at most 64, so
-- the sum fits. Assumes nothing.
use Rattle.std.proofs.Common.{◌≡◌, ◌+◌, ◌*◌, ◌≤◌, drop}
use Rattle.pageset.proofs.CountLaws.{total as ones_of}
use Rattle.pageset.proofs.sets.cardinality.Given as goal

abbrev pub invariant-loop-w : goal.invariant-loop-w
invariant-loop-w l = record { fits : l.total ≤ l.w-index * 64; ones : l.total + ones_of (drop l.w-index l.w-items) ≡ ones_of l.w-items }
