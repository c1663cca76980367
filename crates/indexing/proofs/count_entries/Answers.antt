-- `indexing::count_entries` meets its contract. The invariant: the walk over the set's pages (`Walking`), and the count so far and that of the pages that are left
-- among the records that are left are the whole (`Counting`); the measure: n, the pages that are left.
use Rattle.std.proofs.Common.{◌≡◌, ◌-◌, length, ◌∙◌, arith, rules}
use Rattle.table.specs.Table.{recs}
use Rattle.table.proofs.Checks.{well_two}
use Rattle.pagesdown.specs.Down.{pages_left}
use Rattle.pagesdown.proofs.Walks.{walk_start, walk_end, walk_place, step_ready, step_done}
use Rattle.indexing.proofs.EntryTurns.{left_rise, all_counted, counting_start, counting_ready, counting_turn, counting_end}
use Rattle.indexing.proofs.count_entries.Goals as goal

pub count-held-requires : goal.count-held-requires
count-held-requires c = well_two 29 29 c.args.t.now c.requires.t_value

pub loop-n-init : goal.loop-n-init
loop-n-init c =
    let long : length c.args.log ≡ 16 = search rules in
    let a = c.args in
    let e = c.entry_key-row in (
      omega arith,
      walk_start a.set c.requires.set_value _ c.cardinality-n.ensures,
      counting_start e.result a.t.now _ _ c.count-held.ensures.0 (left_rise a.log (long) a.lsn.0 e.result e.ensures a.set c.requires.set_value),
    )

pub offset_bounds-ws-last_place : goal.offset_bounds-ws-last_place
offset_bounds-ws-last_place c =
    let l = c.loop-n in
    omega (arith, c.last_place.ensures, walk_place c.args.set c.requires.set_value l.i l.w l.n l.invariant.1)

pub bounds-ws-last_place : goal.bounds-ws-last_place
bounds-ws-last_place c =
    let l = c.loop-n in
    omega (arith, c.last_place.ensures, walk_place c.args.set c.requires.set_value l.i l.w l.n l.invariant.1)

pub next_down-step-requires : goal.next_down-step-requires
next_down-step-requires c =
    let l = c.loop-n in
    step_ready c.args.set c.requires.set_value l.i l.w l.n l.invariant.1 c.loop-n-test.true c.last_place.result c.last_place.ensures

pub lacking_below-passed-requires : goal.lacking_below-passed-requires
lacking_below-passed-requires c = let l = c.loop-n in
    let whole = counting_ready c.entry_key-row.result c.args.t.now c.requires.t_value _ l.c _ l.held l.invariant.2 c.with_page-e.result (search rules) in
    record { klen_le_stride = whole.0; t_value = whole.1 }

pub overflow_add-c : goal.overflow_add-c
overflow_add-c c = omega (arith, c.lacking_below-passed.ensures.2)

pub overflow_sub-n : goal.overflow_sub-n
overflow_sub-n c = omega arith

pub loop-n-smaller : goal.loop-n-smaller
loop-n-smaller c = omega arith

pub loop-n-preserved : goal.loop-n-preserved
loop-n-preserved c =
    let s = c.args.set in
    let l = c.loop-n in
    let d = c.next_down-step in
    let k = c.lacking_below-passed in
    let q =
    step_done s c.requires.set_value l.i l.w l.n l.invariant.1 c.loop-n-test.true c.last_place.result c.last_place.ensures d.result.page d.result.windows d.result.rest d.ensures in (
      omega (arith, k.ensures.2),
      q.1,
      counting_turn c.entry_key-row.result c.args.t.now c.requires.t_value _ l.c (pages_left s.windows l.i l.w) l.held l.invariant.2
          (pages_left s.windows d.result.windows d.result.rest) c.with_page-e.result d.result.page k.result.lacking k.result.held q.0 c.with_page-e.ensures k.ensures.0 k.ensures.1,
    )

pub returns : goal.returns
returns c =
    let long : length c.args.log ≡ 16 = search rules in
    let a = c.args in
    let l = c.loop-n in
    let e = c.entry_key-row in
    let z : l.n ≡ 0 = omega arith in
    counting_end e.result a.t.now c.requires.t_value _ l.c (pages_left a.set.windows l.i l.w) l.held l.invariant.2 (walk_end a.set c.requires.set_value l.i l.w l.n l.invariant.1 z)
    ∙ all_counted a.log (long) a.lsn.0 e.result e.ensures a.set c.requires.set_value (recs 29 a.t.now)
