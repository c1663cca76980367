-- The call by value says 1, 2 and the ninth range; the form of the bytes is 3 in the same turn. Assumes nothing.
use Rattle.std.proofs.Common.{ℕ, sym, refl, ap, ◌∙◌}
use Rattle.rules.specs.Arguments.{snapshot_append}
use Rattle.volume.specs.Snapshots.{range_says}
use Rattle.arguments.specs.declared.Reply.{Reply}
use Rattle.arguments.specs.Replies.{none_under}
use Rattle.arguments.specs.Snapshots.{snapshot_in, snapshot_left, or_three}
use Rattle.arguments.proofs.SnapshotLaws.{answer_formed, answer_append, left_snapshot, laid_code, append_few, append_formed, append_unformed}
use Rattle.boundary.proofs.logs.sigatuda_snapshot_append.Goals as goal

pub returns-then-not-snapshot_ok : goal.returns-then-not-snapshot_ok
returns-then-not-snapshot_ok c = ap (λ (r : Reply). (r, c.args.out.now)) (c.or_three.ensures ∙ ap (λ (n : ℕ). none_under (or_three n)) (laid_code c.append-a.result (snapshot_append (snapshot_in c.args.snapshot.now) _) (answer_append c.args.snapshot.now c.snapshot_arg.result c.snapshot_arg.ensures c.log_range.result _ c.append-a.result c.log_range.ensures c.append-a.ensures))) ∙ ap (snapshot_left c.args.out.now) (append_unformed c.args.snapshot.now _ (sym c.snapshot_ok.ensures ∙ c.if-not-snapshot_ok.true))

pub put_snapshot-requires : goal.put_snapshot-requires
put_snapshot-requires c = answer_formed c.append-a.result (snapshot_append (snapshot_in c.args.snapshot.now) (range_says c.log_range.result)) (append_few _ _) (answer_append c.args.snapshot.now c.snapshot_arg.result c.snapshot_arg.ensures c.log_range.result _ c.append-a.result refl c.append-a.ensures)

pub returns : goal.returns
returns c = c.put_snapshot.ensures ∙ left_snapshot _ c.append-a.result (snapshot_append (snapshot_in c.args.snapshot.now) _) (answer_append c.args.snapshot.now c.snapshot_arg.result c.snapshot_arg.ensures c.log_range.result _ c.append-a.result c.log_range.ensures c.append-a.ensures) ∙ ap (snapshot_left c.args.out.now) (append_formed c.args.snapshot.now _ (sym c.snapshot_ok.ensures ∙ c.if-not-snapshot_ok.false))
