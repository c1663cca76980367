-- `octets::load8` meets its contract: one byte spells itself.
use native.Mathlib.Omega.{arith}
use mathlib.Core.Path.{sym}
use Rattle.octets.proofs.Places.{be_at}
use Rattle.octets.proofs.load8.Goals as goal

pub returns : goal.returns
returns c = sym (be_at c.args.at c.args.s.now (omega arith))
