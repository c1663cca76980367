-- The first LSN is tested, and then the second.
use Rattle.std.proofs.Common.{arith, le-ltb, lt-ltb}
use Rattle.synccalls.proofs.both_count.Goals as goal

pub returns-then-local-eq0 : goal.returns-then-local-eq0
returns-then-local-eq0 c = rw (le-ltb 0 c.args.local (omega arith))

pub returns : goal.returns
returns c = rw (lt-ltb 0 c.args.local (omega arith))
