-- `table::overwrite` meets its contract: record i gives way to rec.
use Rattle.std.proofs.Common.{arith, rules, get_or, Fits, w8}
use Rattle.octets.specs.Bytes.{AreBytes}
use Rattle.table.proofs.Stores.{overwrite_size, overwrite_done}
use Rattle.table.proofs.overwrite.Goals as goal

pub overflow_mul-i : goal.overflow_mul-i
overflow_mul-i c =
    let a = c.args in
    omega (arith, overwrite_size a.stride a.t.now a.i c.requires.0 c.requires.1 c.requires.2)

pub overflow_add-i : goal.overflow_add-i
overflow_add-i c =
    let a = c.args in
    omega (arith, overwrite_size a.stride a.t.now a.i c.requires.0 c.requires.1 c.requires.2)

pub store_all-requires : goal.store_all-requires
store_all-requires c =
    let a = c.args in
    omega (arith, overwrite_size a.stride a.t.now a.i c.requires.0 c.requires.1 c.requires.2)

pub returns : goal.returns
returns c =
    let a = c.args in
    let p = c.requires in
    let bytes : AreBytes a.t.now = λ i. let f : Fits w8 (get_or a.t.now i 0) = search rules in f.fits in
    overwrite_done a.stride a.t.now a.i p.0 a.rec.now _ bytes p.1 p.2 p.3 c.store_all.ensures
