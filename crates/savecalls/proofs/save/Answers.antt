-- 20, the arguments, the plan and the store, one after another: a refusal leaves every byte, and else the next decides.
use Rattle.std.proofs.Common.{sym, refl, ap, ◌∙◌, arith}
use Rattle.rules.specs.Records.{Pages}
use Rattle.layout.specs.Tables.{volumes_in, commits_in, presence_in}
use Rattle.rows.proofs.Rows.{formed_rules}
use Rattle.rows.proofs.Tables.{volumes}
use Rattle.volume.specs.Volumes.{volume_says}
use Rattle.writecalls.specs.Written.{logs_in}
use Rattle.savecalls.specs.Saving.{stored}
use Rattle.arguments.proofs.SnapshotLaws.{arg_few}
use Rattle.savecalls.proofs.Forms.{formed, good, set_long, set_laid_lem}
use Rattle.savecalls.proofs.Plans.{says_no, says_yes, planned_is, goes}
use Rattle.savecalls.proofs.Ends.{left_alone, leaves_same, not_formed, bad_arguments, no_plan, by_store}
use Rattle.savecalls.proofs.save.Goals as goal

pub returns-then-not-tables_formed : goal.returns-then-not-tables_formed
returns-then-not-tables_formed c =
    let a = c.args in
    left_alone a.commits.now a.checkpoints.now a.index.now a.presence.now a.out.now _ 20 (not_formed a.volumes.now a.commits.now a.checkpoints.now a.index.now a.presence.now a.vid a.snapshot.now a.count.0 a.sid a.pages.now a.out.now (sym (c.if-not-tables_formed.true) ∙ c.tables_formed.ensures))

pub returns-then-number-ne0 : goal.returns-then-number-ne0
returns-then-number-ne0 c =
    let a = c.args in
    left_alone a.commits.now a.checkpoints.now a.index.now a.presence.now a.out.now _ c.arguments_number-number.result (bad_arguments a.volumes.now a.commits.now a.checkpoints.now a.index.now a.presence.now a.vid a.snapshot.now a.count.0 a.sid a.pages.now a.out.now (sym (c.if-not-tables_formed.false) ∙ c.tables_formed.ensures) c.arguments_number-number.result c.arguments_number-number.ensures c.if-number-ne0.true)

pub save_plan-p-requires : goal.save_plan-p-requires
save_plan-p-requires c =
    let a = c.args in
    let f = formed a.volumes.now a.commits.now a.checkpoints.now a.index.now a.presence.now (sym (sym (c.if-not-tables_formed.false) ∙ c.tables_formed.ensures)) in
    (f.volumes, f.commits, f.presence, arg_few a.snapshot.now c.snapshot_arg.result c.snapshot_arg.ensures)

pub returns-then-p-ne0 : goal.returns-then-p-ne0
returns-then-p-ne0 c =
    let a = c.args in
    left_alone a.commits.now a.checkpoints.now a.index.now a.presence.now a.out.now _ c.save_plan-p.result.code (no_plan a.volumes.now a.commits.now a.checkpoints.now a.index.now a.presence.now a.vid a.snapshot.now a.count.0 a.sid a.pages.now a.out.now (sym (c.if-not-tables_formed.false) ∙ c.tables_formed.ensures) (sym c.if-number-ne0.false ∙ c.arguments_number-number.ensures) c.save_plan-p.result.code (planned_is (volumes_in a.volumes.now) (commits_in a.commits.now) (presence_in a.presence.now) a.vid a.sid a.snapshot.now c.snapshot_arg.result c.snapshot_arg.ensures c.save_plan-p.result c.save_plan-p.ensures ∙ says_no c.save_plan-p.result c.save_plan-p.result.code refl c.if-p-ne0.true))

pub set_read-set-requires : goal.set_read-set-requires
set_read-set-requires c =
    let a = c.args in
    omega (arith, set_long a.pages.now (good a.snapshot.now a.pages.now _ (sym c.if-number-ne0.false ∙ c.arguments_number-number.ensures)).set)

pub save_stored-requires : goal.save_stored-requires
save_stored-requires c = let a = c.args in
    let f = formed a.volumes.now a.commits.now a.checkpoints.now a.index.now a.presence.now (sym (sym (c.if-not-tables_formed.false) ∙ c.tables_formed.ensures)) in
    let o = good a.snapshot.now a.pages.now _ (sym c.if-number-ne0.false ∙ c.arguments_number-number.ensures) in
    let g = goes (volumes_in a.volumes.now) (commits_in a.commits.now) (presence_in a.presence.now) a.vid _ a.sid (formed_rules volumes a.volumes.now f.volumes) _ _ (planned_is (volumes_in a.volumes.now) (commits_in a.commits.now) (presence_in a.presence.now) a.vid a.sid a.snapshot.now c.snapshot_arg.result c.snapshot_arg.ensures c.save_plan-p.result c.save_plan-p.ensures ∙ says_yes c.save_plan-p.result c.if-p-ne0.false) in record { commits_value = (f.commits, f.checkpoints, f.index, f.presence); volume_value = (g.form, g.above, (set_laid_lem a.pages.now o.set c.set_read-set.result c.set_read-set.ensures).0); presence_value = (g.free, o.place) }

pub returns : goal.returns
returns c =
    let a = c.args in
    let o = good a.snapshot.now a.pages.now _ (sym c.if-number-ne0.false ∙ c.arguments_number-number.ensures) in
    leaves_same a.commits.now a.checkpoints.now a.index.now a.presence.now a.out.now _ _
    (ap (λ (ws : Pages). stored (logs_in a.commits.now a.checkpoints.now a.index.now) (presence_in a.presence.now) (volume_says c.save_plan-p.result.volume) c.save_plan-p.result.lsn.0 a.count.0 a.sid ws)
    (set_laid_lem a.pages.now o.set c.set_read-set.result c.set_read-set.ensures).1
    ∙ by_store a.volumes.now a.commits.now a.checkpoints.now a.index.now a.presence.now a.vid a.snapshot.now a.count.0 a.sid a.pages.now a.out.now (sym (c.if-not-tables_formed.false) ∙ c.tables_formed.ensures) (sym c.if-number-ne0.false ∙ c.arguments_number-number.ensures) (volume_says c.save_plan-p.result.volume) c.save_plan-p.result.lsn.0 (planned_is (volumes_in a.volumes.now) (commits_in a.commits.now) (presence_in a.presence.now) a.vid a.sid a.snapshot.now c.snapshot_arg.result c.snapshot_arg.ensures c.save_plan-p.result c.save_plan-p.ensures ∙ says_yes c.save_plan-p.result c.if-p-ne0.false))
    _ _ _ _ _ _ c.save_stored.ensures
