-- Missing frames, at each way out.
use Rattle.std.proofs.Common.{ℕ, ◌/◌, Bool, ◌&&◌, leb, length, sym, ap, ◌∙◌, ap₂, arith, le-leb}
use Rattle.basics.specs.Refusals.{number_of, code_of}
use Rattle.basics.proofs.RefusalLaws.{refusal_counts}
use borrow.Author.Tests.{lt-leb}
use Rattle.rules.specs.Walk.{missing_of}
use Rattle.layout.specs.Tables.{presence_in, presence_ok}
use Rattle.gifts.specs.Paths.{places_in}
use Rattle.gifts.specs.Steps.{items_from}
use Rattle.walkcalls.proofs.Ends.{arg_few, arg_items}
use Rattle.missingcalls.proofs.Ends.{no_table, no_snapshot, no_room, listed}
use Rattle.arguments.specs.declared.Reply.{Reply}
use Rattle.missingcalls.proofs.missing_frames.Goals as goal

pub returns-then-not-commits_formed : goal.returns-then-not-commits_formed
returns-then-not-commits_formed c = no_table c.args.commits.now c.args.presence.now c.args.snapshot.now c.args.list.now c.args.items.now (ap (λ (x : Bool). x && presence_ok c.args.presence.now) (sym c.commits_formed.ensures ∙ c.if-not-commits_formed.true))

pub returns-then-not-presence_formed : goal.returns-then-not-presence_formed
returns-then-not-presence_formed c = no_table c.args.commits.now c.args.presence.now c.args.snapshot.now c.args.list.now c.args.items.now (ap₂ (λ (x y : Bool). x && y) (sym c.commits_formed.ensures ∙ c.if-not-commits_formed.false) (sym c.presence_formed.ensures ∙ c.if-not-presence_formed.true))

pub returns-in-Err : goal.returns-in-Err
returns-in-Err c = ap (λ (r : Reply). (r, (c.args.list.now, c.args.items.now))) c.refused.ensures ∙ no_snapshot c.args.commits.now c.args.presence.now c.args.snapshot.now c.args.list.now c.args.items.now (sym c.commits_formed.ensures ∙ c.if-not-commits_formed.false) (sym c.presence_formed.ensures ∙ c.if-not-presence_formed.false) (number_of c.in-Err.refusal) (sym (ap code_of c.in-Err.is) ∙ c.snapshot_given.ensures) (refusal_counts c.in-Err.refusal)

pub of-path-requires : goal.of-path-requires
of-path-requires c = ((sym c.commits_formed.ensures ∙ c.if-not-commits_formed.false), arg_few c.args.snapshot.now c.snapshot_arg-s.result c.snapshot_arg-s.ensures)

pub count_missing-requires : goal.count_missing-requires
count_missing-requires c = ((sym c.commits_formed.ensures ∙ c.if-not-commits_formed.false), (sym c.presence_formed.ensures ∙ c.if-not-presence_formed.false), c.of-path.ensures.inside)

pub returns-then-list-count_missing : goal.returns-then-list-count_missing
returns-then-list-count_missing c = no_room c.args.commits.now c.args.presence.now c.args.snapshot.now c.args.list.now c.args.items.now (sym c.commits_formed.ensures ∙ c.if-not-commits_formed.false) (sym c.presence_formed.ensures ∙ c.if-not-presence_formed.false) _ c.snapshot_given.ensures (ap code_of c.in_default.is) (missing_of (presence_in c.args.presence.now) (items_from c.args.commits.now c.snapshot_arg-s.result.count.0 (places_in c.of-path.result.runs) 0)) (ap (missing_of (presence_in c.args.presence.now)) (arg_items c.args.snapshot.now c.snapshot_arg-s.result c.snapshot_arg-s.ensures c.args.commits.now c.of-path.result.runs c.of-path.ensures)) (ap (λ (n : ℕ). leb n (length c.args.list.now / 417)) (sym c.count_missing.ensures) ∙ lt-leb c.count_missing.result (length c.args.list.now / 417) c.if-list-count_missing.true)

pub put_missing-n-requires : goal.put_missing-n-requires
put_missing-n-requires c = record { commits_value = ((sym c.commits_formed.ensures ∙ c.if-not-commits_formed.false), (sym c.presence_formed.ensures ∙ c.if-not-presence_formed.false), c.of-path.ensures.inside); runs_in_bounds = omega (arith, c.count_missing.ensures) }

pub returns : goal.returns
returns c = listed c.args.commits.now c.args.presence.now c.args.snapshot.now c.args.list.now c.args.items.now (sym c.commits_formed.ensures ∙ c.if-not-commits_formed.false) (sym c.presence_formed.ensures ∙ c.if-not-presence_formed.false) _ c.snapshot_given.ensures (ap code_of c.in_default.is) (missing_of (presence_in c.args.presence.now) (items_from c.args.commits.now c.snapshot_arg-s.result.count.0 (places_in c.of-path.result.runs) 0)) (ap (missing_of (presence_in c.args.presence.now)) (arg_items c.args.snapshot.now c.snapshot_arg-s.result c.snapshot_arg-s.ensures c.args.commits.now c.of-path.result.runs c.of-path.ensures)) (ap (λ (n : ℕ). leb n (length c.args.list.now / 417)) (sym c.count_missing.ensures) ∙ le-leb c.count_missing.result (length c.args.list.now / 417) (omega arith)) _ _ c.put_missing-n.ensures.list_after c.put_missing-n.ensures.value.0
