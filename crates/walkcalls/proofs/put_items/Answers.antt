-- The items put and those from number k on are all of them, and the notes are those of the commits before number k. The measure is the commits that are left.
use Rattle.std.proofs.Common.{◌*◌, ap, ◌∙◌, subst, arith}
use Rattle.octets.specs.Bytes.{put}
use Rattle.pageset.specs.Sets.{normal_form}
use Rattle.rules.specs.Records.{Pages}
use Rattle.resultlists.proofs.Putting.{Putting, put_start, put_room, put_next, put_length, put_number, put_all}
use Rattle.gifts.specs.Paths.{places_in}
use Rattle.gifts.specs.Steps.{items_from, item_at, step_from}
use Rattle.gifts.specs.Held.{held_by}
use Rattle.gifts.proofs.WalkLaws.{step_found, step_none, items_few}
use Rattle.walkcalls.specs.Items.{item_bytes}
use Rattle.walkcalls.proofs.ItemLaws.{row_long}
use Rattle.walkcalls.proofs.put_items.Goals as goal

pub loop-i-init : goal.loop-i-init
unfolding held_by
loop-i-init c =
    (put_start item_bytes 1003 c.args.list.now (items_from c.args.commits.now c.args.count.0 (places_in c.args.path.runs) 0), omega arith, omega arith, c.new-notes.ensures)

pub next_gift-step-requires : goal.next_gift-step-requires
next_gift-step-requires c = record { commits_value = (c.requires.commits_value.0, c.requires.commits_value.1); known = c.loop-i.invariant.3 }

pub shape_of-list-in_default : goal.shape_of-list-in_default
shape_of-list-in_default c =
    let l = c.loop-i in
    put_length item_bytes 1003 c.args.list.now (items_from c.args.commits.now c.args.count.0 (places_in c.args.path.runs) 0) l.n l.list _ l.invariant.0 c.requires.runs_in_bounds

pub returns-in_default : goal.returns-in_default
returns-in_default c = let l = c.loop-i in
    let g = c.next_gift-step in
    let z = step_none c.args.commits.now (places_in c.args.path.runs) c.requires.commits_value.0 c.requires.commits_value.1 c.args.count.0 l.k g.result g.ensures.value c.in_default.is in
    let m = put_number item_bytes 1003 c.args.list.now (items_from c.args.commits.now c.args.count.0 (places_in c.args.path.runs) 0) l.n l.list _ l.invariant.0 z in record { value = (m, omega (arith, m, items_few c.args.commits.now (places_in c.args.path.runs) c.args.count.0, c.requires.commits_value.1.few)); list_after = put_all item_bytes 1003 c.args.list.now (items_from c.args.commits.now c.args.count.0 (places_in c.args.path.runs) 0) l.n l.list _ l.invariant.0 z }

pub overflow_mul-n : goal.overflow_mul-n
overflow_mul-n c =
    let l = c.loop-i in
    let g = c.next_gift-step in
    let s = step_found c.args.commits.now (places_in c.args.path.runs) c.requires.commits_value.0 c.requires.commits_value.1 c.args.count.0 l.k g.result g.ensures.value c.in-Some.i c.in-Some.is in
    let e = g.ensures.gift_in c.in-Some.i c.in-Some.is in
    let x = item_at c.args.commits.now c.in-Some.i (step_from c.args.commits.now c.args.count.0 (places_in c.args.path.runs) l.k).1 in
    let rest = items_from c.args.commits.now c.args.count.0 (places_in c.args.path.runs) g.result.next in
    let p = subst (Putting item_bytes 1003 c.args.list.now (items_from c.args.commits.now c.args.count.0 (places_in c.args.path.runs) 0) l.n l.list) s.items l.invariant.0 in
    omega (arith, put_room item_bytes 1003 c.args.list.now (items_from c.args.commits.now c.args.count.0 (places_in c.args.path.runs) 0) l.n l.list x rest p c.requires.runs_in_bounds)

pub put_item-requires : goal.put_item-requires
put_item-requires c = let l = c.loop-i in
    let g = c.next_gift-step in
    let s = step_found c.args.commits.now (places_in c.args.path.runs) c.requires.commits_value.0 c.requires.commits_value.1 c.args.count.0 l.k g.result g.ensures.value c.in-Some.i c.in-Some.is in
    let e = g.ensures.gift_in c.in-Some.i c.in-Some.is in
    let x = item_at c.args.commits.now c.in-Some.i (step_from c.args.commits.now c.args.count.0 (places_in c.args.path.runs) l.k).1 in
    let rest = items_from c.args.commits.now c.args.count.0 (places_in c.args.path.runs) g.result.next in
    let p = subst (Putting item_bytes 1003 c.args.list.now (items_from c.args.commits.now c.args.count.0 (places_in c.args.path.runs) 0) l.n l.list) s.items l.invariant.0 in
    let q = put_length item_bytes 1003 c.args.list.now (items_from c.args.commits.now c.args.count.0 (places_in c.args.path.runs) 0) l.n l.list _ l.invariant.0 c.requires.runs_in_bounds in record { commits_value = (c.requires.commits_value.0, s.below, s.has); left_value = (ap normal_form e ∙ s.normal, omega (arith, q, put_room item_bytes 1003 c.args.list.now (items_from c.args.commits.now c.args.count.0 (places_in c.args.path.runs) 0) l.n l.list x rest p c.requires.runs_in_bounds)) }

pub overflow_add-n : goal.overflow_add-n
overflow_add-n c =
    let l = c.loop-i in
    let g = c.next_gift-step in
    let s = step_found c.args.commits.now (places_in c.args.path.runs) c.requires.commits_value.0 c.requires.commits_value.1 c.args.count.0 l.k g.result g.ensures.value c.in-Some.i c.in-Some.is in
    omega (arith, s.later, s.few, l.invariant.1, c.requires.commits_value.1.few)

pub loop-i-smaller : goal.loop-i-smaller
loop-i-smaller c =
    let l = c.loop-i in
    let g = c.next_gift-step in
    let s = step_found c.args.commits.now (places_in c.args.path.runs) c.requires.commits_value.0 c.requires.commits_value.1 c.args.count.0 l.k g.result g.ensures.value c.in-Some.i c.in-Some.is in
    omega (arith, s.later, s.few)

pub loop-i-preserved : goal.loop-i-preserved
loop-i-preserved c =
    let l = c.loop-i in
    let g = c.next_gift-step in
    let s = step_found c.args.commits.now (places_in c.args.path.runs) c.requires.commits_value.0 c.requires.commits_value.1 c.args.count.0 l.k g.result g.ensures.value c.in-Some.i c.in-Some.is in
    let e = g.ensures.gift_in c.in-Some.i c.in-Some.is in
    let x = item_at c.args.commits.now c.in-Some.i (step_from c.args.commits.now c.args.count.0 (places_in c.args.path.runs) l.k).1 in
    let rest = items_from c.args.commits.now c.args.count.0 (places_in c.args.path.runs) g.result.next in
    let p = subst (Putting item_bytes 1003 c.args.list.now (items_from c.args.commits.now c.args.count.0 (places_in c.args.path.runs) 0) l.n l.list) s.items l.invariant.0 in
    let long = row_long c.args.commits.now c.requires.commits_value.0 c.in-Some.i s.below s.has (step_from c.args.commits.now c.args.count.0 (places_in c.args.path.runs) l.k).1 s.normal in
    (put_next item_bytes 1003 c.args.list.now (items_from c.args.commits.now c.args.count.0 (places_in c.args.path.runs) 0) l.n l.list x rest p c.requires.runs_in_bounds _ long (c.put_item.ensures ∙ ap (λ (w : Pages). put (l.n * 1003) (item_bytes.spell (item_at c.args.commits.now c.in-Some.i w)) l.list) e), omega (arith, s.later, l.invariant.1), s.few, g.ensures.known_2)
