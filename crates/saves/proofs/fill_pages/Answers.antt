-- The invariant: the walk over the set's pages (`Walking`), and that the rows of the pages that are left, put at the place reached, make all of the rows put at the
-- first place; the measure: n, the pages that are left.
use Rattle.std.proofs.Common.{◌≡◌, ℕ, ◌-◌, List, reverse, length, refl, ap, ◌∙◌, arith, rules}
use Rattle.octets.specs.Bytes as B
use Rattle.table.specs.Table.{join}
use Rattle.pagesdown.specs.Down.{pages_left}
use Rattle.pagesdown.proofs.Walks.{walk_all, walk_start, walk_end, walk_place, step_ready, step_done}
use Rattle.saves.specs.Added.{page_rows}
use Rattle.saves.proofs.Made.{counted}
use Rattle.saves.proofs.Fills.{fill_turn, fill_end}
use Rattle.saves.proofs.fill_pages.Goals as goal

pub cardinality-n-requires : goal.cardinality-n-requires
cardinality-n-requires c = c.requires.0

pub loop-n-init : goal.loop-n-init
loop-n-init c =
    let a = c.args in
    (refl, omega (arith, c.requires.1, counted a.set c.requires.0 _ c.cardinality-n.ensures), walk_start a.set c.requires.0 _ c.cardinality-n.ensures, refl)

pub offset_bounds-ws-last_place : goal.offset_bounds-ws-last_place
offset_bounds-ws-last_place c = omega (arith, c.last_place.ensures, walk_place c.args.set c.requires.0 c.loop-n.i c.loop-n.w c.loop-n.n c.loop-n.invariant.2)

pub bounds-ws-last_place : goal.bounds-ws-last_place
bounds-ws-last_place c = omega (arith, c.last_place.ensures, walk_place c.args.set c.requires.0 c.loop-n.i c.loop-n.w c.loop-n.n c.loop-n.invariant.2)

pub next_down-step-requires : goal.next_down-step-requires
next_down-step-requires c = step_ready c.args.set c.requires.0 c.loop-n.i c.loop-n.w c.loop-n.n c.loop-n.invariant.2 c.loop-n-test.true c.last_place.result c.last_place.ensures

pub store_all-requires : goal.store_all-requires
store_all-requires c = omega (arith, c.loop-n.invariant.1, c.loop-n.invariant.0, c.loop-n-test.true)

pub overflow_add-to : goal.overflow_add-to
overflow_add-to c = omega (arith, c.loop-n.invariant.1, c.loop-n.invariant.0, c.loop-n-test.true)

pub overflow_sub-n : goal.overflow_sub-n
overflow_sub-n c = omega arith

pub loop-n-smaller : goal.loop-n-smaller
loop-n-smaller c = omega arith

pub loop-n-preserved : goal.loop-n-preserved
loop-n-preserved c =
    let long : length c.args.sid ≡ 16 = search rules in
    let a = c.args in
    let l = c.loop-n in
    let d = c.next_down-step in
    let s = step_done a.set c.requires.0 l.i l.w l.n l.invariant.2 c.loop-n-test.true c.last_place.result c.last_place.ensures d.result.page d.result.windows d.result.rest d.ensures in
    let left = pages_left a.set.windows l.i l.w in (
      omega (arith, c.store_all.auto.s, l.invariant.0),
      omega (arith, c.store_all.auto.s, l.invariant.1, c.loop-n-test.true),
      s.1,
      fill_turn a.sid (long) left (pages_left a.set.windows d.result.windows d.result.rest) d.result.page s.0 l.to c.present_key-row.result l.t _ _ c.present_key-row.ensures c.store_all.ensures
          (omega (arith, l.invariant.1, l.invariant.2.pages)) l.invariant.3,
    )

pub shape_of-t : goal.shape_of-t
shape_of-t c = c.loop-n.invariant.0

pub returns : goal.returns
returns c =
    let long : length c.args.sid ≡ 16 = search rules in
    let a = c.args in
    let l = c.loop-n in
    let z : l.n ≡ 0 = omega arith in
    fill_end a.sid (long) (pages_left a.set.windows l.i l.w) (walk_end a.set c.requires.0 l.i l.w l.n l.invariant.2 z) l.to l.t _ l.invariant.3
    ∙ ap (λ (ps : List ℕ). B.put a.at (join (page_rows a.sid (reverse ps))) a.t.now) (walk_all a.set c.requires.0)
