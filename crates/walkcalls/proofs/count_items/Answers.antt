-- The items counted and those from number k on are all of them, and the notes are those of the commits before number k. The measure is the commits that are left.
use Rattle.std.proofs.Common.{length, ap, arith}
use Rattle.gifts.specs.Paths.{places_in}
use Rattle.gifts.specs.Held.{held_by}
use Rattle.gifts.proofs.WalkLaws.{step_found, step_none}
use Rattle.walkcalls.proofs.count_items.Goals as goal

pub loop-n-init : goal.loop-n-init
unfolding held_by
loop-n-init c = (omega arith, omega arith, omega arith, c.new-notes.ensures)

pub next_gift-step-requires : goal.next_gift-step-requires
next_gift-step-requires c = record { commits_value = (c.requires.0, c.requires.1); known = c.loop-n.invariant.3 }

pub returns-in_default : goal.returns-in_default
returns-in_default c =
    let l = c.loop-n in
    let g = c.next_gift-step in
    let z = step_none c.args.commits.now (places_in c.args.path.runs) c.requires.0 c.requires.1 c.args.count.0 l.k g.result g.ensures.value c.in_default.is in
    omega (arith, l.invariant.0, ap length z)

pub overflow_add-n : goal.overflow_add-n
overflow_add-n c =
    let l = c.loop-n in
    let g = c.next_gift-step in
    let s = step_found c.args.commits.now (places_in c.args.path.runs) c.requires.0 c.requires.1 c.args.count.0 l.k g.result g.ensures.value c.in-Some.field-0 c.in-Some.is in
    omega (arith, s.later, s.few, l.invariant.1, c.requires.1.few)

pub loop-n-smaller : goal.loop-n-smaller
loop-n-smaller c =
    let l = c.loop-n in
    let g = c.next_gift-step in
    let s = step_found c.args.commits.now (places_in c.args.path.runs) c.requires.0 c.requires.1 c.args.count.0 l.k g.result g.ensures.value c.in-Some.field-0 c.in-Some.is in
    omega (arith, s.later, s.few)

pub loop-n-preserved : goal.loop-n-preserved
loop-n-preserved c =
    let l = c.loop-n in
    let g = c.next_gift-step in
    let s = step_found c.args.commits.now (places_in c.args.path.runs) c.requires.0 c.requires.1 c.args.count.0 l.k g.result g.ensures.value c.in-Some.field-0 c.in-Some.is in
    let m = ap length s.items in
    (omega (arith, l.invariant.0), omega (arith, s.later, l.invariant.1), s.few, g.ensures.known_2)
