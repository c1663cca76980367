-- The frames counted and those of the items from number k on are all of them. The measure is the commits that are left.
use Rattle.std.proofs.Common.{List, length, refl, ap, arith, length-append, rules}
use Rattle.pageset.specs.Sets.{shown}
use Rattle.rules.specs.Walk.{Item, missing_of}
use Rattle.layout.specs.Tables.{presence_in}
use Rattle.gifts.specs.Paths.{places_in}
use Rattle.gifts.specs.Steps.{items_from}
use Rattle.gifts.specs.Held.{held_by}
use Rattle.gifts.proofs.WalkLaws.{found_at, found_none}
use Rattle.missingcalls.specs.Cursors.{frames_at, frames_left}
use Rattle.missingcalls.proofs.CursorLaws.{item_left, missing_few}
use Rattle.missingcalls.proofs.count_missing.Goals as goal

pub loop-i-init : goal.loop-i-init
unfolding held_by
loop-i-init c = (omega arith, refl, c.new-notes.ensures)

pub next_set-step-requires : goal.next_set-step-requires
next_set-step-requires c = record { commits_value = (c.requires.0, c.requires.2); known = c.loop-i.invariant.2 }

pub returns-in_default : goal.returns-in_default
returns-in_default c =
    let l = c.loop-i in
    let g = c.next_set-step in
    let z = found_none c.args.commits.now (places_in c.args.path.runs) c.requires.0 c.requires.2 c.args.count.0 l.k g.result g.ensures.value c.in_default.is in
    omega (arith, l.invariant.0, ap (λ (items : List Item). length (missing_of (presence_in c.args.presence.now) items)) z)

pub put_frames-n-requires : goal.put_frames-n-requires
put_frames-n-requires c = let l = c.loop-i in
    let g = c.next_set-step in
    let s = found_at c.args.commits.now (places_in c.args.path.runs) c.requires.0 c.requires.2 c.args.count.0 l.k g.result g.ensures.value c.in-Some.i c.in-Some.is in record { commits_value = (c.requires.0, c.requires.1, (s.below, s.has), s.normal); from_bound = omega (arith, l.invariant.0, missing_few (presence_in c.args.presence.now) c.args.commits.now (places_in c.args.path.runs) c.args.count.0 c.requires.0 c.requires.2) }

pub loop-i-smaller : goal.loop-i-smaller
loop-i-smaller c =
    let l = c.loop-i in
    let g = c.next_set-step in
    let s = found_at c.args.commits.now (places_in c.args.path.runs) c.requires.0 c.requires.2 c.args.count.0 l.k g.result g.ensures.value c.in-Some.i c.in-Some.is in
    omega (arith, s.later, s.few)

pub loop-i-preserved : goal.loop-i-preserved
loop-i-preserved c =
    let l = c.loop-i in
    let g = c.next_set-step in
    let s = found_at c.args.commits.now (places_in c.args.path.runs) c.requires.0 c.requires.2 c.args.count.0 l.k g.result g.ensures.value c.in-Some.i c.in-Some.is in
    let f = (frames_left (presence_in c.args.presence.now) (shown g.result.gift) (frames_at c.args.commits.now c.in-Some.i) 0) in
    (omega (arith, l.invariant.0, c.put_frames-n.ensures.value, ap length (item_left c.args.commits.now (presence_in c.args.presence.now) c.args.count.0 (places_in c.args.path.runs) c.requires.0 c.requires.2 l.k g.result c.in-Some.i s), length-append f (missing_of (presence_in c.args.presence.now) (items_from c.args.commits.now c.args.count.0 (places_in c.args.path.runs) g.result.next))), search rules, g.ensures.known_2)
