-- `batch::lacking_below` meets its contract: none is lacking where the key is found, and either way its place is known.
use native.Mathlib.Omega.{arith}
use Rattle.table.specs.Table.{runs}
use Rattle.batch.proofs.Turns.{lacks_at, lacks_gap}
use Rattle.batch.proofs.lacking_below.Goals as goal

pub returns-in-Ok : goal.returns-in-Ok
returns-in-Ok c =
    let a = c.args in
    let z = lacks_at a.klen a.key.now (runs a.held a.stride 2 a.t.now) _ _ c.find_in.ensures c.in-Ok.is in
    (z.0, z.1, omega arith)

pub returns-in-Err : goal.returns-in-Err
returns-in-Err c =
    let a = c.args in
    let z = lacks_gap a.klen a.key.now (runs a.held a.stride 2 a.t.now) _ _ c.find_in.ensures c.requires.t_value c.in-Err.is in
    (z.0, z.1, omega arith)
