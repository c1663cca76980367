-- `put_log` meets its contract: `-`, or the two digits. Assumes nothing.
use mathlib.Core.Path.{refl}
use native.Mathlib.Omega.{arith}
use Rattle.calltext.proofs.put_log.Goals as goal

pub returns-in_default : goal.returns-in_default
returns-in_default c = rw c.in_default.is (c.store_all.ensures, refl, omega arith)

pub returns : goal.returns
returns c = rw (c.in-At.is, ← c.hex_byte-high.ensures, ← c.hex_byte-low.ensures) (c.store_all-2.ensures, refl, omega arith)
