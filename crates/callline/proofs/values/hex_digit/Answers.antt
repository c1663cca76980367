-- `values::hex_digit` meets its contract: the bytes below `0`, the digits, those between, the letters, those above. Assumes nothing.
use Rattle.std.proofs.Common.{arith, rules, le-leb}
use Rattle.callline.specs.Values.{hex_digit}
use Rattle.callline.proofs.ValueLaws.{no_digit, no_digit', no_letter, no_letter'}
use Rattle.callline.proofs.values.hex_digit.Goals as goal

pub returns-then-b-lt48 : goal.returns-then-b-lt48
unfolding hex_digit
returns-then-b-lt48 c = let b = c.args.b in (rw (no_digit b (omega arith), no_letter b (omega arith)), search rules)

pub returns-then-b-le57 : goal.returns-then-b-le57
unfolding hex_digit
returns-then-b-le57 c = let b = c.args.b in (rw (le-leb 48 b (omega arith), le-leb b 57 (omega arith)), search rules)

pub returns-then-b-lt97 : goal.returns-then-b-lt97
unfolding hex_digit
returns-then-b-lt97 c = let b = c.args.b in (rw (no_digit' b (omega arith), no_letter b (omega arith)), search rules)

pub returns-then-b-le102 : goal.returns-then-b-le102
unfolding hex_digit
returns-then-b-le102 c = let b = c.args.b in (rw (no_digit' b (omega arith), le-leb 97 b (omega arith), le-leb b 102 (omega arith)), search rules)

pub returns : goal.returns
unfolding hex_digit
returns c = let b = c.args.b in (rw (no_digit' b (omega arith), no_letter' b (omega arith)), search rules)
