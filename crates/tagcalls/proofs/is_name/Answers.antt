-- The tests of the length in turn.
use Rattle.tagcalls.proofs.Ends.{empty_name, long_name, name_fits}
use Rattle.tagcalls.proofs.is_name.Goals as goal

pub returns-then-n-eq0 : goal.returns-then-n-eq0
returns-then-n-eq0 c = empty_name c.args.name.now c.if-n-eq0.true

pub returns-then-n-gt32 : goal.returns-then-n-gt32
returns-then-n-gt32 c = long_name c.args.name.now c.if-n-gt32.true

pub returns : goal.returns
returns c = name_fits c.args.name.now c.if-n-eq0.false c.if-n-gt32.false
