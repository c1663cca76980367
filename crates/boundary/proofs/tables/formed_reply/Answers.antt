-- 0 where the table is in form, 20 where it is not: each way out is the definition at the value of the test.
use Rattle.std.proofs.Common.{sym, ap}
use Rattle.boundary.specs.Tables.{formed_reply}
use Rattle.boundary.proofs.tables.formed_reply.Goals as goal

pub returns-then-formed : goal.returns-then-formed
returns-then-formed c = sym (ap formed_reply c.if-formed.true)

pub returns : goal.returns
returns c = sym (ap formed_reply c.if-formed.false)
