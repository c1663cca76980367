-- `values::has_lead` meets its contract: no digit, one digit, or a first digit that is not 0. Assumes nothing.
use Rattle.std.proofs.Common.{length, arith, le-ltb, lt-ltb, eq-eqb, ne_eqb}
use Rattle.callline.specs.Values.{leads}
use Rattle.callline.proofs.values.has_lead.Goals as goal

pub returns-then-s-eq0 : goal.returns-then-s-eq0
unfolding leads
returns-then-s-eq0 c = let s = c.args.s.now in rw (le-ltb 0 (length s) (omega arith))

pub returns-then-s-eq1 : goal.returns-then-s-eq1
unfolding leads
returns-then-s-eq1 c = let s = c.args.s.now in rw (lt-ltb 0 (length s) (omega arith), eq-eqb (length s) 1 (omega arith))

pub returns : goal.returns
unfolding leads
returns c = let s = c.args.s.now in rw (lt-ltb 0 (length s) (omega arith), ne_eqb (length s) 1 (λ e. omega arith))
