-- The first LSN is tested, and then the second. Assumes nothing.
use Rattle.std.proofs.Common.{arith, le-ltb, lt-ltb}
use Rattle.volume.proofs.snapshot.LogRange.has_lsns.Goals as goal

pub returns-then-self-eq0 : goal.returns-then-self-eq0
returns-then-self-eq0 c = rw (le-ltb 0 c.args.self.start.0 (omega arith))

pub returns : goal.returns
returns c = rw (lt-ltb 0 c.args.self.start.0 (omega arith))
