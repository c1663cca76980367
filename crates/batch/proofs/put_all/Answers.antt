-- `batch::put_all` meets its contract. The invariant: the bytes are the table after the first i puts, laid over the bytes at entry.
use mathlib.Core.Path.{refl}
use native.Mathlib.Omega.{arith}
use Rattle.batch.proofs.Turns.{puts_none, puts_hold, puts_fit, puts_turn}
use Rattle.batch.proofs.put_all.Goals as goal

pub loop-i-init : goal.loop-i-init
loop-i-init c =
    let a = c.args in
    let p = c.requires in
    record { size = refl; bytes = puts_none a.stride a.klen a.n a.batch.now a.t.now p.stride_nonzero.0 p.stride_nonzero.2 p.t_value p.t_value_2 (λ i. (c.type_inv.t i).fits) }

pub put-requires : goal.put-requires
put-requires c =
    let a = c.args in
    let p = c.requires in
    let l = c.loop-i in
    let h = puts_hold a.stride a.klen a.n a.batch.now a.t.now p.stride_nonzero.0 p.stride_nonzero.2 p.t_value p.t_value_2 l.i (omega arith) l.t l.invariant.bytes in
    let f = puts_fit a.stride a.klen a.n a.batch.now a.t.now p.stride_nonzero.0 p.stride_nonzero.2 p.t_value p.t_value_2 l.i (omega arith) l.t l.invariant.bytes in
    record { stride_nonzero = (p.stride_nonzero.0, p.stride_nonzero.1, c.record.ensures.1); t_value = h.well; t_value_2 = rw c.record.ensures.0 f }

pub loop-i-preserved : goal.loop-i-preserved
loop-i-preserved c =
    let a = c.args in
    let p = c.requires in
    let l = c.loop-i in
    let e = rw c.record.ensures.0 at c.put.ensures in
    record {
      size = omega (arith, c.put.auto.t, l.invariant.size);
      bytes = puts_turn a.stride a.klen a.n a.batch.now a.t.now p.stride_nonzero.0 p.stride_nonzero.2 p.t_value p.t_value_2 l.i (omega arith) l.t l.invariant.bytes _ e;
    }
