-- `values::identifier` meets its contract: the length, the first digit, the second. Assumes nothing.
use Rattle.std.proofs.Common.{length, get_or, arith, le-ltb, lt-ltb, eq-eqb, ne_eqb}
use Rattle.callline.specs.Values.{identifier_of, hex_digit}
use Rattle.callline.proofs.values.identifier.Goals as goal

pub returns-then-s-ne2 : goal.returns-then-s-ne2
unfolding identifier_of
returns-then-s-ne2 c = let s = c.args.s.now in rw (ne_eqb (length s) 2 (λ e. omega arith))

pub returns-then-high-ge16 : goal.returns-then-high-ge16
unfolding identifier_of
returns-then-high-ge16 c = let s = c.args.s.now in rw (eq-eqb (length s) 2 (omega arith), le-ltb (hex_digit (get_or s 0 0)) 16 (omega arith))

pub returns-then-low-ge16 : goal.returns-then-low-ge16
unfolding identifier_of
returns-then-low-ge16 c = let s = c.args.s.now in rw (eq-eqb (length s) 2 (omega arith), lt-ltb (hex_digit (get_or s 0 0)) 16 (omega arith), le-ltb (hex_digit (get_or s 1 0)) 16 (omega arith))

pub returns : goal.returns
unfolding identifier_of
returns c = let s = c.args.s.now in rw (eq-eqb (length s) 2 (omega arith), lt-ltb (hex_digit (get_or s 0 0)) 16 (omega arith), lt-ltb (hex_digit (get_or s 1 0)) 16 (omega arith), ← c.hex_digit-high.ensures.0, ← c.hex_digit-low.ensures.0)
