-- The walk, at each of its ways out.
use Rattle.std.proofs.Common.{◌/◌, length, sym, ap, ◌∙◌, leb-true}
use Rattle.basics.specs.Refusals.{number_of, code_of}
use Rattle.basics.proofs.RefusalLaws.{refusal_counts}
use Rattle.gifts.specs.Paths.{places_in}
use Rattle.gifts.specs.Steps.{items_from}
use Rattle.walkcalls.proofs.Ends.{arg_few, arg_items, no_table, no_snapshot, no_room, walked}
use Rattle.arguments.specs.declared.Reply.{Reply}
use Rattle.walkcalls.proofs.walk.Goals as goal

pub returns-then-not-commits_formed : goal.returns-then-not-commits_formed
returns-then-not-commits_formed c = no_table c.args.commits.now c.args.snapshot.now c.args.list.now c.args.items.now (sym c.commits_formed.ensures ∙ c.if-not-commits_formed.true)

pub returns-in-Err : goal.returns-in-Err
returns-in-Err c = ap (λ (r : Reply). (r, (c.args.list.now, c.args.items.now))) c.refused.ensures ∙ no_snapshot c.args.commits.now c.args.snapshot.now c.args.list.now c.args.items.now (sym c.commits_formed.ensures ∙ c.if-not-commits_formed.false) (number_of c.in-Err.refusal) (sym (ap code_of c.in-Err.is) ∙ c.snapshot_given.ensures) (refusal_counts c.in-Err.refusal)

pub of-path-requires : goal.of-path-requires
of-path-requires c = ((sym c.commits_formed.ensures ∙ c.if-not-commits_formed.false), arg_few c.args.snapshot.now c.snapshot_arg-s.result c.snapshot_arg-s.ensures)

pub has_room-requires : goal.has_room-requires
has_room-requires c = ((sym c.commits_formed.ensures ∙ c.if-not-commits_formed.false), c.of-path.ensures.inside)

pub returns-then-not-has_room : goal.returns-then-not-has_room
returns-then-not-has_room c = no_room c.args.commits.now c.args.snapshot.now c.args.list.now c.args.items.now (sym c.commits_formed.ensures ∙ c.if-not-commits_formed.false) _ c.snapshot_given.ensures (ap code_of c.in_default.is) (items_from c.args.commits.now c.snapshot_arg-s.result.count.0 (places_in c.of-path.result.runs) 0) (arg_items c.args.snapshot.now c.snapshot_arg-s.result c.snapshot_arg-s.ensures c.args.commits.now c.of-path.result.runs c.of-path.ensures) (sym c.has_room.ensures ∙ c.if-not-has_room.true)

pub put_items-n-requires : goal.put_items-n-requires
put_items-n-requires c = record { commits_value = ((sym c.commits_formed.ensures ∙ c.if-not-commits_formed.false), c.of-path.ensures.inside); runs_in_bounds = leb-true (length (items_from c.args.commits.now c.snapshot_arg-s.result.count.0 (places_in c.of-path.result.runs) 0)) (length c.args.list.now / 1003) (sym c.has_room.ensures ∙ c.if-not-has_room.false) }

pub returns : goal.returns
returns c = walked c.args.commits.now c.args.snapshot.now c.args.list.now c.args.items.now (sym c.commits_formed.ensures ∙ c.if-not-commits_formed.false) _ c.snapshot_given.ensures (ap code_of c.in_default.is) (items_from c.args.commits.now c.snapshot_arg-s.result.count.0 (places_in c.of-path.result.runs) 0) (arg_items c.args.snapshot.now c.snapshot_arg-s.result c.snapshot_arg-s.ensures c.args.commits.now c.of-path.result.runs c.of-path.ensures) (sym c.has_room.ensures ∙ c.if-not-has_room.false) _ _ c.put_items-n.ensures.list_after c.put_items-n.ensures.value.0
