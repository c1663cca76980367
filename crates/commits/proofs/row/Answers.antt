-- `commits::row` meets its contract: record i of a formed table ends within its bytes.
use Rattle.std.proofs.Common.{refl, arith}
use Rattle.rows.proofs.Checks.{row_in}
use Rattle.rows.proofs.Tables.{commits}
use Rattle.commits.proofs.row.Goals as goal

pub overflow_mul-result : goal.overflow_mul-result
overflow_mul-result c = omega (arith, row_in commits c.args.t.now c.requires.0 c.args.i c.requires.1)

pub overflow_add-result : goal.overflow_add-result
overflow_add-result c = omega (arith, row_in commits c.args.t.now c.requires.0 c.args.i c.requires.1)

pub returns : goal.returns
returns c = (refl, row_in commits c.args.t.now c.requires.0 c.args.i c.requires.1)
