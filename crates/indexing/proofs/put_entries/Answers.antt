-- `indexing::put_entries` meets its contract. The invariant: the walk over the set's pages (`Walking`), and the state of the merge with the rows of the pages that
-- are left still to come (`Entering`); the measure: n, the pages that are left.
use Rattle.std.proofs.Common.{◌≡◌, ℕ, ◌+◌, ◌-◌, List, [], ◌∷◌, ◌++◌, length, sym, refl, ap, ◌∙◌, subst, arith, rules}
use Rattle.octets.specs.Bytes.{bytes_of}
use Rattle.octets.specs.Bytes as B
use Rattle.pageset.specs.Sets.{zero_window}
use Rattle.table.proofs.Checks.{well_two}
use Rattle.batch.proofs.Merges.{Ready, total_small}
use Rattle.pagesdown.specs.Down.{pages_left}
use Rattle.pagesdown.proofs.Walks.{Walking, walk_start, walk_end, walk_place, step_ready, step_done}
use Rattle.layout.specs.Records.{log_page_lsn_bytes}
use Rattle.indexing.proofs.EntryRows.{key_row, row_long}
use Rattle.indexing.proofs.EntryTurns.{page_rows}
use Rattle.indexing.proofs.EntryMerges.{Entering, entering_ready, entering_start, entering_next, entering_turn, entering_end}
use Rattle.indexing.proofs.put_entries.Goals as goal

pub count-count-requires : goal.count-count-requires
count-count-requires c = well_two 29 29 c.args.t.now c.requires.t_value

pub cardinality-n-requires : goal.cardinality-n-requires
cardinality-n-requires c = c.requires.set_value

pub loop-n-init : goal.loop-n-init
loop-n-init c =
    let long : length c.args.log ≡ 16 = search rules in
    let a = c.args in
    let p = c.requires in
    let row = c.entry_key-row.result in
    let all = pages_left a.set.windows a.set.len zero_window in
    let begun = entering_start a.log (long) a.lsn.0 row c.entry_key-row.ensures a.set p.set_value a.fresh a.t.now p.t_value p.fresh_value p.t_value_2 in
    (refl, walk_start a.set p.set_value _ c.cardinality-n.ensures, subst (λ (m : ℕ). Entering row a.fresh all all a.t.now m a.fresh a.t.now) (sym c.count-count.ensures.0) begun)

pub offset_bounds-ws-last_place : goal.offset_bounds-ws-last_place
offset_bounds-ws-last_place c =
    let l = c.loop-n in
    omega (arith, c.last_place.ensures, walk_place c.args.set c.requires.set_value l.i l.w l.n l.invariant.1)

pub bounds-ws-last_place : goal.bounds-ws-last_place
bounds-ws-last_place c =
    let l = c.loop-n in
    omega (arith, c.last_place.ensures, walk_place c.args.set c.requires.set_value l.i l.w l.n l.invariant.1)

pub next_down-step-requires : goal.next_down-step-requires
next_down-step-requires c =
    let l = c.loop-n in
    step_ready c.args.set c.requires.set_value l.i l.w l.n l.invariant.1 c.loop-n-test.true c.last_place.result c.last_place.ensures

pub merge_next-left-requires : goal.merge_next-left-requires
merge_next-left-requires c =
    let long : length c.args.log ≡ 16 = search rules in
    let row_of : (row : List ℕ) → row ≡ log_page_lsn_bytes.spell (c.args.log, (0, c.args.lsn.0)) → length row ≡ 29 = λ row e. ap length (e ∙ key_row c.args.log c.args.lsn.0 0) ∙ row_long c.args.log (long) c.args.lsn.0 0 in
    -- what is required of the entries
    let ready : (row : List ℕ) → row ≡ log_page_lsn_bytes.spell (c.args.log, (0, c.args.lsn.0)) → Ready 29 29 c.args.fresh (page_rows row (pages_left c.args.set.windows c.args.set.len zero_window)) c.args.t.now = λ row e. let a = c.args in
    let p = c.requires in
    entering_ready a.log (long) a.lsn.0 row e a.set p.set_value a.fresh a.t.now p.t_value p.fresh_value p.t_value_2 in
    -- the step of a turn: its page is the last of those that are left
    let stepped : let ws = c.args.set.windows in let l = c.loop-n in let r = c.next_down-step.result in (pages_left ws l.i l.w ≡ pages_left ws r.windows r.rest ++ r.page ∷ []) × Walking c.args.set r.windows r.rest (l.n - 1) = let l = c.loop-n in
    let d = c.next_down-step in
    step_done c.args.set c.requires.set_value l.i l.w l.n l.invariant.1 c.loop-n-test.true c.last_place.result c.last_place.ensures d.result.page d.result.windows d.result.rest d.ensures in
    let a = c.args in
    let l = c.loop-n in
    let d = c.next_down-step in
    let row = c.entry_key-row.result in
    let whole = entering_next row (row_of row c.entry_key-row.ensures) a.fresh (pages_left a.set.windows a.set.len zero_window) a.t.now (ready row c.entry_key-row.ensures)
    (pages_left a.set.windows l.i l.w) (pages_left a.set.windows d.result.windows d.result.rest) d.result.page (stepped).0
    c.with_page-e.result c.with_page-e.ensures l.held l.coming l.t l.invariant.2 in
    record { klen_le_stride = whole.0; t_value = whole.1.0; bound = whole.1.1 }

pub overflow_sub-n : goal.overflow_sub-n
overflow_sub-n c = omega arith

pub loop-n-smaller : goal.loop-n-smaller
loop-n-smaller c = omega arith

pub loop-n-preserved : goal.loop-n-preserved
loop-n-preserved c =
    let long : length c.args.log ≡ 16 = search rules in
    let row_of : (row : List ℕ) → row ≡ log_page_lsn_bytes.spell (c.args.log, (0, c.args.lsn.0)) → length row ≡ 29 = λ row e. ap length (e ∙ key_row c.args.log c.args.lsn.0 0) ∙ row_long c.args.log (long) c.args.lsn.0 0 in
    let ready : (row : List ℕ) → row ≡ log_page_lsn_bytes.spell (c.args.log, (0, c.args.lsn.0)) → Ready 29 29 c.args.fresh (page_rows row (pages_left c.args.set.windows c.args.set.len zero_window)) c.args.t.now = λ row e. let a = c.args in
    let p = c.requires in
    entering_ready a.log (long) a.lsn.0 row e a.set p.set_value a.fresh a.t.now p.t_value p.fresh_value p.t_value_2 in
    let stepped : let ws = c.args.set.windows in let l = c.loop-n in let r = c.next_down-step.result in (pages_left ws l.i l.w ≡ pages_left ws r.windows r.rest ++ r.page ∷ []) × Walking c.args.set r.windows r.rest (l.n - 1) = let l = c.loop-n in
    let d = c.next_down-step in
    step_done c.args.set c.requires.set_value l.i l.w l.n l.invariant.1 c.loop-n-test.true c.last_place.result c.last_place.ensures d.result.page d.result.windows d.result.rest d.ensures in
    let a = c.args in
    let l = c.loop-n in
    let d = c.next_down-step in
    let m = c.merge_next-left in
    let row = c.entry_key-row.result in
    let q = stepped in (
      omega (arith, m.auto.t, l.invariant.0),
      q.1,
      entering_turn row (row_of row c.entry_key-row.ensures) a.fresh (pages_left a.set.windows a.set.len zero_window) a.t.now (ready row c.entry_key-row.ensures)
          (pages_left a.set.windows l.i l.w) (pages_left a.set.windows d.result.windows d.result.rest) d.result.page q.0
          c.with_page-e.result c.with_page-e.ensures l.held l.coming l.t l.invariant.2 m.result.held m.result.fresh _ m.ensures,
    )

pub overflow_add-count : goal.overflow_add-count
overflow_add-count c =
    let long : length c.args.log ≡ 16 = search rules in
    let ready : (row : List ℕ) → row ≡ log_page_lsn_bytes.spell (c.args.log, (0, c.args.lsn.0)) → Ready 29 29 c.args.fresh (page_rows row (pages_left c.args.set.windows c.args.set.len zero_window)) c.args.t.now = λ row e. let a = c.args in
    let p = c.requires in
    entering_ready a.log (long) a.lsn.0 row e a.set p.set_value a.fresh a.t.now p.t_value p.fresh_value p.t_value_2 in
    let a = c.args in
    let row = c.entry_key-row.result in
    omega (arith, c.count-count.ensures.0, total_small 29 29 a.fresh (page_rows row (pages_left a.set.windows a.set.len zero_window)) a.t.now (ready row c.entry_key-row.ensures))

pub store16-requires : goal.store16-requires
store16-requires c = omega (arith, c.loop-n.invariant.0, well_two 29 29 c.args.t.now c.requires.t_value)

pub shape_of-t : goal.shape_of-t
shape_of-t c = omega (arith, c.loop-n.invariant.0, c.store16.auto.s)

pub returns : goal.returns
returns c =
    let long : length c.args.log ≡ 16 = search rules in
    let a = c.args in
    let p = c.requires in
    let l = c.loop-n in
    let z : l.n ≡ 0 = omega arith in
    entering_end a.log (long) a.lsn.0 c.entry_key-row.result c.entry_key-row.ensures a.set p.set_value a.fresh a.t.now p.t_value p.fresh_value p.t_value_2
    (pages_left a.set.windows l.i l.w) l.held l.coming l.t _ l.invariant.2 (walk_end a.set p.set_value l.i l.w l.n l.invariant.1 z)
    (c.store16.ensures ∙ ap (λ (m : ℕ). B.put 0 (bytes_of 2 (m + a.fresh)) l.t) c.count-count.ensures.0)
