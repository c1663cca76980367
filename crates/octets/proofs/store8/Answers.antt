-- `octets::store8` meets its contract: a byte is its own only byte.
use native.Mathlib.Omega.{arith}
use Rattle.octets.proofs.Places.{store_one}
use Rattle.octets.proofs.store8.Goals as goal

pub returns : goal.returns
returns c = store_one c.args.at c.args.v c.args.s.now (omega arith) (omega arith)
