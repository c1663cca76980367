-- 20 and the arguments, and then the path, without the ranges of the new local log.
use Rattle.std.proofs.Common.{length, sym, ap, ◌∙◌}
use Rattle.rules.specs.Lists.{all}
use Rattle.paths.specs.Left.{other_log}
use Rattle.paths.proofs.LeftLaws.{without_left, without_says}
use Rattle.copycalls.specs.Making.{ids, snapshot_on}
use Rattle.copycalls.proofs.Asks.{formed, passes}
use Rattle.arguments.proofs.SnapshotLaws.{arg_few}
use Rattle.copycalls.proofs.Ends.{left_alone, leaves_same, others_only, not_formed, bad_arguments, path_goes}
use Rattle.copycalls.proofs.from_snapshot.Goals as goal

pub returns-then-not-tables_formed : goal.returns-then-not-tables_formed
returns-then-not-tables_formed c = left_alone c.args.volumes.now c.args.commits.now c.args.checkpoints.now c.args.index.now c.args.out.now (snapshot_on c.args.volumes.now c.args.commits.now c.args.checkpoints.now c.args.index.now c.args.snapshot.now (ids c.args.vid c.args.local c.args.remote) (length c.args.out.now)) 20 (not_formed c.args.volumes.now c.args.commits.now c.args.checkpoints.now c.args.index.now c.args.snapshot.now (ids c.args.vid c.args.local c.args.remote) (length c.args.out.now) (sym (c.if-not-tables_formed.true) ∙ c.tables_formed.ensures))

pub returns-then-number-ne0 : goal.returns-then-number-ne0
returns-then-number-ne0 c = left_alone c.args.volumes.now c.args.commits.now c.args.checkpoints.now c.args.index.now c.args.out.now (snapshot_on c.args.volumes.now c.args.commits.now c.args.checkpoints.now c.args.index.now c.args.snapshot.now (ids c.args.vid c.args.local c.args.remote) (length c.args.out.now)) c.arguments_number-number.result (bad_arguments c.args.volumes.now c.args.commits.now c.args.checkpoints.now c.args.index.now c.args.snapshot.now (ids c.args.vid c.args.local c.args.remote) (length c.args.out.now) (sym (c.if-not-tables_formed.false) ∙ c.tables_formed.ensures) c.arguments_number-number.result c.arguments_number-number.ensures c.if-number-ne0.true)

pub without-left-requires : goal.without-left-requires
without-left-requires c = arg_few c.args.snapshot.now c.snapshot_arg-s.result c.snapshot_arg-s.ensures

pub copy_path-requires : goal.copy_path-requires
copy_path-requires c = record { volumes_value = formed c.args.volumes.now c.args.commits.now c.args.checkpoints.now c.args.index.now (sym (c.if-not-tables_formed.false) ∙ c.tables_formed.ensures); is_left = (without_left _ _ _ _ (arg_few c.args.snapshot.now c.snapshot_arg-s.result c.snapshot_arg-s.ensures) c.without-left.ensures, ap (all (other_log c.args.local)) (without_says _ _ _ _ c.without-left.ensures) ∙ others_only c.args.local _, (passes c.args.snapshot.now (length c.args.out.now) (sym c.if-number-ne0.false ∙ c.arguments_number-number.ensures)).place) }

pub returns : goal.returns
returns c = leaves_same c.args.volumes.now c.args.commits.now c.args.checkpoints.now c.args.index.now c.args.out.now _ (snapshot_on c.args.volumes.now c.args.commits.now c.args.checkpoints.now c.args.index.now c.args.snapshot.now (ids c.args.vid c.args.local c.args.remote) (length c.args.out.now)) (path_goes c.args.volumes.now c.args.commits.now c.args.checkpoints.now c.args.index.now c.args.snapshot.now (ids c.args.vid c.args.local c.args.remote) (length c.args.out.now) (sym (c.if-not-tables_formed.false) ∙ c.tables_formed.ensures) (sym c.if-number-ne0.false ∙ c.arguments_number-number.ensures) c.snapshot_arg-s.result c.snapshot_arg-s.ensures _ (without_says _ _ _ _ c.without-left.ensures)) _ _ _ _ _ _ c.copy_path.ensures
