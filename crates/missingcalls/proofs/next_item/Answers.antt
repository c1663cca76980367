-- The missing frames of the items from `from` on are those of the items from `next` on; the notes know nothing at first, and then what the steps noted. The measure is the commits that are left.
use Rattle.std.proofs.Common.{refl, ap, ◌∙◌, arith}
use Rattle.pageset.specs.Sets.{shown}
use Rattle.rules.specs.Walk.{missing_of}
use Rattle.layout.specs.Tables.{presence_in}
use Rattle.gifts.specs.Paths.{places_in, commits_at, before}
use Rattle.gifts.specs.Held.{held_by}
use Rattle.gifts.proofs.HeldLaws.{held_past}
use Rattle.gifts.proofs.WalkLaws.{found_at, found_none}
use Rattle.missingcalls.specs.Cursors.{frames_at}
use Rattle.missingcalls.proofs.CursorLaws.{frame_lacks, item_past, item_here}
use Rattle.missingcalls.proofs.next_item.Goals as goal

pub loop-i-init : goal.loop-i-init
loop-i-init c =
    (refl, c.unknowing-notes.ensures (held_by (before c.args.from (commits_at c.args.commits.now (places_in c.args.path.runs)))) (λ p h. held_past c.args.commits.now (places_in c.args.path.runs) c.requires.0 c.requires.2.below c.args.from p h))

pub next_set-step-requires : goal.next_set-step-requires
next_set-step-requires c = record { commits_value = (c.requires.0, c.requires.2); known = c.loop-i.invariant.1 }

pub returns-in_default : goal.returns-in_default
returns-in_default c =
    record { next = (c.loop-i.invariant.0 ∙ ap (missing_of (presence_in c.args.presence.now)) (found_none c.args.commits.now (places_in c.args.path.runs) c.requires.0 c.requires.2 c.args.count.0 c.loop-i.next c.next_set-step.result c.next_set-step.ensures.value c.in_default.is), (c.zero-range.ensures, c.start.ensures)) }

pub next_frame-f-requires : goal.next_frame-f-requires
next_frame-f-requires c =
    let s = found_at c.args.commits.now (places_in c.args.path.runs) c.requires.0 c.requires.2 c.args.count.0 c.loop-i.next c.next_set-step.result c.next_set-step.ensures.value c.in-Some.i c.in-Some.is in
    (c.requires.0, c.requires.1, (s.below, s.has), s.normal)

pub returns-then-f : goal.returns-then-f
returns-then-f c = item_here c.args.commits.now (presence_in c.args.presence.now) c.args.count.0 (places_in c.args.path.runs) c.requires.0 c.requires.2 c.loop-i.next c.next_set-step.result c.in-Some.i (found_at c.args.commits.now (places_in c.args.path.runs) c.requires.0 c.requires.2 c.args.count.0 c.loop-i.next c.next_set-step.result c.next_set-step.ensures.value c.in-Some.i c.in-Some.is) _ c.loop-i.invariant.0 c.next_frame-f.result c.next_frame-f.ensures c.if-f.true

pub loop-i-smaller : goal.loop-i-smaller
loop-i-smaller c =
    let s = found_at c.args.commits.now (places_in c.args.path.runs) c.requires.0 c.requires.2 c.args.count.0 c.loop-i.next c.next_set-step.result c.next_set-step.ensures.value c.in-Some.i c.in-Some.is in
    omega (arith, s.later, s.few)

pub loop-i-preserved : goal.loop-i-preserved
loop-i-preserved c =
    let g = shown c.next_set-step.result.gift in
    (c.loop-i.invariant.0 ∙ item_past c.args.commits.now (presence_in c.args.presence.now) c.args.count.0 (places_in c.args.path.runs) c.requires.0 c.requires.2 c.loop-i.next c.next_set-step.result c.in-Some.i (found_at c.args.commits.now (places_in c.args.path.runs) c.requires.0 c.requires.2 c.args.count.0 c.loop-i.next c.next_set-step.result c.next_set-step.ensures.value c.in-Some.i c.in-Some.is) (frame_lacks (presence_in c.args.presence.now) g (frames_at c.args.commits.now c.in-Some.i) 0 c.next_frame-f.result c.next_frame-f.ensures c.if-f.false), c.next_set-step.ensures.known_2)
