-- The frames put and those of the items from number k on are all of them (`Putting`). The measure is the commits that are left.
use Rattle.std.proofs.Common.{ap, subst, arith}
use Rattle.pageset.specs.Sets.{shown}
use Rattle.rules.specs.Walk.{missing_of}
use Rattle.layout.specs.Values.{part_bytes}
use Rattle.layout.specs.Tables.{presence_in}
use Rattle.gifts.specs.Paths.{places_in}
use Rattle.gifts.specs.Steps.{items_from}
use Rattle.gifts.specs.Held.{held_by}
use Rattle.gifts.proofs.WalkLaws.{found_at, found_none}
use Rattle.resultlists.proofs.Putting.{Putting, put_start, put_length, put_number, put_all}
use Rattle.missingcalls.specs.Cursors.{frames_at, frames_left}
use Rattle.missingcalls.proofs.CursorLaws.{item_left, missing_few}
use Rattle.missingcalls.proofs.PutLaws.{run_few, put_run}
use Rattle.missingcalls.proofs.put_missing.Goals as goal

pub loop-i-init : goal.loop-i-init
unfolding held_by
loop-i-init c =
    (put_start part_bytes 417 c.args.list.now (missing_of (presence_in c.args.presence.now) (items_from c.args.commits.now c.args.count.0 (places_in c.args.path.runs) 0)), c.new-notes.ensures)

pub next_set-step-requires : goal.next_set-step-requires
next_set-step-requires c = record { commits_value = (c.requires.commits_value.0, c.requires.commits_value.2); known = c.loop-i.invariant.1 }

pub shape_of-list-in_default : goal.shape_of-list-in_default
shape_of-list-in_default c =
    let l = c.loop-i in
    put_length part_bytes 417 c.args.list.now (missing_of (presence_in c.args.presence.now) (items_from c.args.commits.now c.args.count.0 (places_in c.args.path.runs) 0)) l.n l.list _ l.invariant.0 c.requires.runs_in_bounds

pub returns-in_default : goal.returns-in_default
returns-in_default c = let l = c.loop-i in
    let g = c.next_set-step in
    let z = ap (missing_of (presence_in c.args.presence.now)) (found_none c.args.commits.now (places_in c.args.path.runs) c.requires.commits_value.0 c.requires.commits_value.2 c.args.count.0 l.k g.result g.ensures.value c.in_default.is) in
    let m = put_number part_bytes 417 c.args.list.now (missing_of (presence_in c.args.presence.now) (items_from c.args.commits.now c.args.count.0 (places_in c.args.path.runs) 0)) l.n l.list _ l.invariant.0 z in record { value = (m, omega (arith, m, missing_few (presence_in c.args.presence.now) c.args.commits.now (places_in c.args.path.runs) c.args.count.0 c.requires.commits_value.0 c.requires.commits_value.2)); list_after = put_all part_bytes 417 c.args.list.now (missing_of (presence_in c.args.presence.now) (items_from c.args.commits.now c.args.count.0 (places_in c.args.path.runs) 0)) l.n l.list _ l.invariant.0 z }

pub put_frames-n-requires : goal.put_frames-n-requires
put_frames-n-requires c = let l = c.loop-i in
    let g = c.next_set-step in
    let s = found_at c.args.commits.now (places_in c.args.path.runs) c.requires.commits_value.0 c.requires.commits_value.2 c.args.count.0 l.k g.result g.ensures.value c.in-Some.i c.in-Some.is in
    let p = subst (Putting part_bytes 417 c.args.list.now (missing_of (presence_in c.args.presence.now) (items_from c.args.commits.now c.args.count.0 (places_in c.args.path.runs) 0)) l.n l.list) (item_left c.args.commits.now (presence_in c.args.presence.now) c.args.count.0 (places_in c.args.path.runs) c.requires.commits_value.0 c.requires.commits_value.2 l.k g.result c.in-Some.i s) l.invariant.0 in
    let f = (frames_left (presence_in c.args.presence.now) (shown g.result.gift) (frames_at c.args.commits.now c.in-Some.i) 0) in record { commits_value = (c.requires.commits_value.0, c.requires.commits_value.1, (s.below, s.has), s.normal); from_bound = omega (arith, missing_few (presence_in c.args.presence.now) c.args.commits.now (places_in c.args.path.runs) c.args.count.0 c.requires.commits_value.0 c.requires.commits_value.2, run_few c.args.list.now (missing_of (presence_in c.args.presence.now) (items_from c.args.commits.now c.args.count.0 (places_in c.args.path.runs) 0)) l.n l.list f (missing_of (presence_in c.args.presence.now) (items_from c.args.commits.now c.args.count.0 (places_in c.args.path.runs) g.result.next)) p) }

pub loop-i-smaller : goal.loop-i-smaller
loop-i-smaller c =
    let l = c.loop-i in
    let g = c.next_set-step in
    let s = found_at c.args.commits.now (places_in c.args.path.runs) c.requires.commits_value.0 c.requires.commits_value.2 c.args.count.0 l.k g.result g.ensures.value c.in-Some.i c.in-Some.is in
    omega (arith, s.later, s.few)

pub loop-i-preserved : goal.loop-i-preserved
loop-i-preserved c =
    let l = c.loop-i in
    let g = c.next_set-step in
    let s = found_at c.args.commits.now (places_in c.args.path.runs) c.requires.commits_value.0 c.requires.commits_value.2 c.args.count.0 l.k g.result g.ensures.value c.in-Some.i c.in-Some.is in
    let p = subst (Putting part_bytes 417 c.args.list.now (missing_of (presence_in c.args.presence.now) (items_from c.args.commits.now c.args.count.0 (places_in c.args.path.runs) 0)) l.n l.list) (item_left c.args.commits.now (presence_in c.args.presence.now) c.args.count.0 (places_in c.args.path.runs) c.requires.commits_value.0 c.requires.commits_value.2 l.k g.result c.in-Some.i s) l.invariant.0 in
    let f = (frames_left (presence_in c.args.presence.now) (shown g.result.gift) (frames_at c.args.commits.now c.in-Some.i) 0) in
    (put_run c.args.list.now (missing_of (presence_in c.args.presence.now) (items_from c.args.commits.now c.args.count.0 (places_in c.args.path.runs) 0)) l.n l.list f (missing_of (presence_in c.args.presence.now) (items_from c.args.commits.now c.args.count.0 (places_in c.args.path.runs) g.result.next)) p c.requires.runs_in_bounds c.put_frames-n.result _ c.put_frames-n.ensures.value c.put_frames-n.ensures.entries, g.ensures.known_2)
