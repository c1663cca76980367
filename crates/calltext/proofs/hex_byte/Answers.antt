-- `hex_byte` meets its contract: a decimal digit, or a letter. Assumes nothing.
use native.Mathlib.Omega.{arith}
use borrow.Author.Tests.{lt-ltb, le-ltb}
use Rattle.calltext.specs.Output.{hex_byte}
use Rattle.calltext.proofs.hex_byte.Goals as goal

pub returns-then-d-lt10 : goal.returns-then-d-lt10
unfolding hex_byte
returns-then-d-lt10 c = rw (lt-ltb c.args.d 10 (omega arith))

pub returns : goal.returns
unfolding hex_byte
returns c = rw (le-ltb c.args.d 10 (omega arith))
