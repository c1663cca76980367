-- `table::well_ordered` meets its contract: test by test.
use mathlib.Core.Path.{sym}
use native.Mathlib.Omega.{arith}
use Rattle.table.proofs.Rows.{cap_room}
use Rattle.table.proofs.Checks.{well_short, well_over, well_checked}
use Rattle.table.proofs.well_ordered.Goals as goal

pub returns-then-t-lt2 : goal.returns-then-t-lt2
returns-then-t-lt2 c = let a = c.args in sym (well_short a.stride a.klen a.t.now c.if-t-lt2.true)

pub returns-then-capacity-n : goal.returns-then-capacity-n
returns-then-capacity-n c =
    let a = c.args in
    sym (well_over a.stride a.klen a.t.now (omega arith) (omega (arith, c.count-n.ensures.0, c.capacity.ensures, c.if-capacity-n.true)))

pub in_order-requires : goal.in_order-requires
in_order-requires c =
    let a = c.args in
    (c.requires.1, cap_room a.stride c.count-n.result a.t.now c.requires.0 (omega arith) (omega (arith, c.capacity.ensures, c.if-capacity-n.false)))

pub returns : goal.returns
returns c =
    let a = c.args in
    well_checked a.stride a.klen a.t.now c.count-n.result _ c.count-n.ensures.0 (omega arith) (omega (arith, c.capacity.ensures, c.if-capacity-n.false)) c.in_order.ensures
