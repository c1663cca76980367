-- The walk goes over the frames before frame k: what is left of the parts is what the frames that are left make (`Reached`). Assumes nothing.
use Rattle.std.proofs.Common.{◌≡◌, ℕ, ◌+◌, subst, arith}
use Rattle.commit.specs.Says.{frame_says}
use Rattle.segmentargs.specs.Lists.{segment_in}
use Rattle.segmentargs.proofs.ListLaws.{Reached, reached_first, next_fits, next_page_lem, reached_part, reached_next}
use Rattle.segmentargs.proofs.lists.run_in.Goals as goal

pub loop-i-init : goal.loop-i-init
loop-i-init c = reached_first (segment_in c.args.at c.args.b.now) c.requires.1

pub entry_in-f-requires : goal.entry_in-f-requires
entry_in-f-requires c = (c.requires.0, omega arith)

pub overflow_add-start : goal.overflow_add-start
overflow_add-start c =
    let l = c.loop-i in
    omega (arith, next_fits (segment_in c.args.at c.args.b.now) l.i l.start (l.below + 1) l.invariant (frame_says c.entry_in-f.result) c.entry_in-f.ensures)

pub loop-i-preserved : goal.loop-i-preserved
loop-i-preserved c =
    let l = c.loop-i in
    (reached_next (segment_in c.args.at c.args.b.now) l.i l.start (l.below + 1) l.invariant (frame_says c.entry_in-f.result) c.entry_in-f.ensures)

pub entry_in-f-requires-2 : goal.entry_in-f-requires-2
entry_in-f-requires-2 c = (c.requires.0, c.requires.2)

pub overflow_add-end : goal.overflow_add-end
overflow_add-end c =
    let l = c.loop-i in
    let e : l.i ≡ c.args.k = omega arith in
    let r = subst (λ (n : ℕ). Reached (segment_in c.args.at c.args.b.now) n l.start (l.below + 1)) e l.invariant in
    omega (arith, next_fits (segment_in c.args.at c.args.b.now) c.args.k l.start (l.below + 1) r (frame_says c.entry_in-f-2.result) c.entry_in-f-2.ensures)

pub overflow_add-first : goal.overflow_add-first
overflow_add-first c =
    let l = c.loop-i in
    let e : l.i ≡ c.args.k = omega arith in
    let r = subst (λ (n : ℕ). Reached (segment_in c.args.at c.args.b.now) n l.start (l.below + 1)) e l.invariant in
    omega (arith, next_page_lem (segment_in c.args.at c.args.b.now) c.args.k l.start (l.below + 1) r (frame_says c.entry_in-f-2.result) c.entry_in-f-2.ensures)

pub returns : goal.returns
returns c =
    let l = c.loop-i in
    let e : l.i ≡ c.args.k = omega arith in
    let r = subst (λ (n : ℕ). Reached (segment_in c.args.at c.args.b.now) n l.start (l.below + 1)) e l.invariant in
    (reached_part (segment_in c.args.at c.args.b.now) c.args.k l.start (l.below + 1) r (frame_says c.entry_in-f-2.result) c.entry_in-f-2.ensures, omega arith)
