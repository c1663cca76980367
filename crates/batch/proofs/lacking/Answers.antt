-- `batch::lacking` meets its contract: all records are the first `count`.
use Rattle.table.proofs.Checks.{well_two, ready}
use Rattle.batch.proofs.Turns.{lacks_all}
use Rattle.batch.proofs.lacking.Goals as goal

pub count-requires : goal.count-requires
count-requires c = well_two c.args.stride c.args.klen c.args.t.now c.requires.t_value

pub lacking_below-requires : goal.lacking_below-requires
lacking_below-requires c = let a = c.args in
    let p = c.requires in
    let z = ready a.stride a.klen a.t.now p.stride_nonzero.0 p.t_value _ c.count.ensures.0 in record { klen_le_stride = (p.stride_nonzero.1, p.stride_nonzero.2, z.0, c.count.ensures.1); t_value = z.1 }

pub returns : goal.returns
returns c =
    let a = c.args in
    (lacks_all a.stride a.klen a.t.now a.key.now _ _ c.count.ensures.0 c.lacking_below.ensures.1, c.lacking_below.ensures.2)
