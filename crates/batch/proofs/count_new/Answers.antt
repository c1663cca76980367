-- `batch::count_new` meets its contract. The invariant: the count so far and that of the records from i on are the whole.
use mathlib.Core.Path.{◌∙◌, ap}
use mathlib.Core.List.{List}
use Prim.Native.Nat.{ℕ}
use native.Mathlib.Omega.{arith}
use Rattle.table.specs.Table.{recs}
use Rattle.batch.specs.Batch.{lacks}
use Rattle.batch.proofs.Turns.{both_small, news_turn, news_done}
use Rattle.batch.proofs.count_new.Goals as goal

pub loop-i-preserved : goal.loop-i-preserved
loop-i-preserved c =
    let a = c.args in
    let l = c.loop-i in
    let rs = recs a.stride a.t.now in
    let e = c.lacking-a.ensures.0 ∙ ap (λ (r : List ℕ). lacks a.klen r rs) c.record.ensures.0 in
    record {
      small = omega (arith, both_small c.lacking-a.result c.lacking_later-b.result c.lacking-a.ensures.1 c.lacking_later-b.ensures.1);
      whole = news_turn a.stride a.klen a.n l.i l.c _ a.batch.now rs _ _ (omega arith) e c.lacking_later-b.ensures.0 l.invariant.whole;
    }

pub returns : goal.returns
returns c =
    let a = c.args in
    let l = c.loop-i in
    (news_done a.stride a.klen a.n l.i l.c _ a.batch.now (recs a.stride a.t.now) (omega arith) l.invariant.whole, omega arith)
