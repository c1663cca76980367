-- `batch::merge` meets its contract. The invariant: the state of the merge (`Merging`), with the first i records still to come.
use mathlib.Core.Path.{sym, ap, ◌∙◌, subst}
use mathlib.Core.List.{List}
use Prim.Native.Nat.{ℕ, ◌+◌}
use native.Mathlib.Omega.{arith}
use Rattle.octets.specs.Bytes.{bytes_of}
use Rattle.octets.specs.Bytes as B
use Rattle.table.specs.Table.{runs, count_of}
use Rattle.table.proofs.Checks.{well_two}
use Rattle.batch.proofs.Merges.{Merging, Ready, batch_ready, total_small, merging_start, merging_done, item_ready, item_next, none_left}
use Rattle.batch.proofs.merge.Goals as goal

pub count-count-requires : goal.count-count-requires
count-count-requires c =
    let a = c.args in
    well_two a.stride a.klen a.t.now c.requires.t_value

pub loop-i-init : goal.loop-i-init
loop-i-init c =
    let a = c.args in
    let p = c.requires in
    let items : List (List ℕ) = runs a.n a.stride 0 a.batch.now in
    let ready : Ready a.stride a.klen a.c items a.t.now = batch_ready a.stride a.klen a.n a.c a.batch.now a.t.now p.stride_nonzero.0 p.stride_nonzero.2 p.t_value p.batch_value p.c_value p.t_value_2 in
    subst (λ (i : ℕ). Merging a.stride a.klen (count_of a.t.now + a.c) i a.c items items a.t.now a.t.now) (sym c.count-count.ensures.0) (merging_start a.stride a.klen a.c items a.t.now ready)

pub merge_next-left-requires : goal.merge_next-left-requires
merge_next-left-requires c =
    let a = c.args in
    let p = c.requires in
    let l = c.loop-i in
    let ready : Ready a.stride a.klen a.c (runs a.n a.stride 0 a.batch.now) a.t.now = batch_ready a.stride a.klen a.n a.c a.batch.now a.t.now p.stride_nonzero.0 p.stride_nonzero.2 p.t_value p.batch_value p.c_value p.t_value_2 in
    let whole = item_ready a.stride a.klen a.n a.c a.batch.now a.t.now ready p.stride_nonzero.2 l.i l.held l.coming l.t (omega arith) (omega arith) l.invariant p.stride_nonzero.1 in
    rw c.record.ensures.0 (record { klen_le_stride = whole.0; t_value = whole.1.0; bound = whole.1.1 })

pub loop-i-preserved : goal.loop-i-preserved
loop-i-preserved c =
    let a = c.args in
    let p = c.requires in
    let l = c.loop-i in
    let ready : Ready a.stride a.klen a.c (runs a.n a.stride 0 a.batch.now) a.t.now = batch_ready a.stride a.klen a.n a.c a.batch.now a.t.now p.stride_nonzero.0 p.stride_nonzero.2 p.t_value p.batch_value p.c_value p.t_value_2 in
    let e = rw c.record.ensures.0 at c.merge_next-left.ensures in
    item_next a.stride a.klen a.n a.c a.batch.now a.t.now ready p.stride_nonzero.2 l.i l.held l.coming l.t (omega arith) (omega arith) l.invariant _ _ _ e

pub overflow_add-count : goal.overflow_add-count
overflow_add-count c =
    let a = c.args in
    let p = c.requires in
    let items : List (List ℕ) = runs a.n a.stride 0 a.batch.now in
    let ready : Ready a.stride a.klen a.c items a.t.now = batch_ready a.stride a.klen a.n a.c a.batch.now a.t.now p.stride_nonzero.0 p.stride_nonzero.2 p.t_value p.batch_value p.c_value p.t_value_2 in
    omega (arith, c.count-count.ensures.0, total_small a.stride a.klen a.c items a.t.now ready)

pub store16-requires : goal.store16-requires
store16-requires c =
    let a = c.args in
    omega (arith, c.loop-i.invariant.size, well_two a.stride a.klen a.t.now c.requires.t_value)

pub returns : goal.returns
returns c =
    let a = c.args in
    let p = c.requires in
    let l = c.loop-i in
    let items : List (List ℕ) = runs a.n a.stride 0 a.batch.now in
    let ready : Ready a.stride a.klen a.c items a.t.now = batch_ready a.stride a.klen a.n a.c a.batch.now a.t.now p.stride_nonzero.0 p.stride_nonzero.2 p.t_value p.batch_value p.c_value p.t_value_2 in
    merging_done a.stride a.klen a.c l.held l.coming items a.t.now l.t ready (none_left a.stride a.klen (count_of a.t.now + a.c) l.held l.coming l.i items a.batch.now a.t.now l.t (omega arith) l.invariant) _
    (c.store16.ensures ∙ ap (λ (m : ℕ). B.put 0 (bytes_of 2 (m + a.c)) l.t) c.count-count.ensures.0)
