-- The plan decides: its number leaves all as found; where it goes there is room, and the stores are those of the rule.
use Rattle.std.proofs.Common.{sym, ap, ◌∙◌}
use Rattle.layout.specs.Tables.{volumes_in}
use Rattle.writecalls.specs.Written.{logs_in}
use Rattle.paths.specs.Left.{left_says}
use Rattle.copycalls.specs.Making.{ids}
use Rattle.basics.specs.Orders.{bytes}
use Rattle.rules.specs.Records.{Volume, volume_key}
use Rattle.rules.specs.Tables.{fits, store}
use Rattle.rules.specs.Copies.{copied}
use Rattle.layout.specs.Records.{volume_bytes}
use Rattle.layout.specs.Tables.{laid_over}
use Rattle.copycalls.specs.Making.{made}
use Rattle.copycalls.proofs.Ends.{left_alone, left_made, goes, plan_refuses}
use Rattle.copycalls.proofs.copy_path.Goals as goal

pub returns-then-number-ne0 : goal.returns-then-number-ne0
returns-then-number-ne0 c = left_alone c.args.volumes.now c.args.commits.now c.args.checkpoints.now c.args.index.now c.args.out.now (made (copied (volumes_in c.args.volumes.now) (logs_in c.args.commits.now c.args.checkpoints.now c.args.index.now) (left_says c.args.left) (ids c.args.vid c.args.local c.args.remote))) c.copy_plan-number.result (plan_refuses (volumes_in c.args.volumes.now) (logs_in c.args.commits.now c.args.checkpoints.now c.args.index.now) (left_says c.args.left) (ids c.args.vid c.args.local c.args.remote) c.copy_plan-number.result c.copy_plan-number.ensures c.if-number-ne0.true)

pub commits_left-n-requires : goal.commits_left-n-requires
commits_left-n-requires c = (c.requires.volumes_value.1, c.requires.is_left.0)

pub put_volume-requires : goal.put_volume-requires
put_volume-requires c = record { t_value = (c.requires.volumes_value.0, c.new_volume-v.ensures.1); t_value_2 = ap (λ (v : Volume). fits (store volume_key bytes v (volumes_in c.args.volumes.now))) c.new_volume-v.ensures.0 ∙ (goes (volumes_in c.args.volumes.now) (logs_in c.args.commits.now c.args.checkpoints.now c.args.index.now) (left_says c.args.left) (ids c.args.vid c.args.local c.args.remote) (sym c.if-number-ne0.false ∙ c.copy_plan-number.ensures)).volume }

pub store_copies-requires : goal.store_copies-requires
store_copies-requires c = record { commits_value = (c.requires.volumes_value.1, c.requires.volumes_value.2, c.requires.volumes_value.3); is_left = (c.requires.is_left.0, c.commits_left-n.ensures, c.requires.is_left.1); left_value = (goes (volumes_in c.args.volumes.now) (logs_in c.args.commits.now c.args.checkpoints.now c.args.index.now) (left_says c.args.left) (ids c.args.vid c.args.local c.args.remote) (sym c.if-number-ne0.false ∙ c.copy_plan-number.ensures)).logs }

pub put_out-requires : goal.put_out-requires
put_out-requires c = c.requires.is_left.2

pub returns : goal.returns
returns c = left_made c.args.volumes.now c.args.commits.now c.args.checkpoints.now c.args.index.now c.args.out.now (made (copied (volumes_in c.args.volumes.now) (logs_in c.args.commits.now c.args.checkpoints.now c.args.index.now) (left_says c.args.left) (ids c.args.vid c.args.local c.args.remote))) _ _ _ (goes (volumes_in c.args.volumes.now) (logs_in c.args.commits.now c.args.checkpoints.now c.args.index.now) (left_says c.args.left) (ids c.args.vid c.args.local c.args.remote) (sym c.if-number-ne0.false ∙ c.copy_plan-number.ensures)).is_made _ _ _ _ _ (c.put_volume.ensures ∙ ap (λ (v : Volume). laid_over volume_bytes (store volume_key bytes v (volumes_in c.args.volumes.now)) c.args.volumes.now) c.new_volume-v.ensures.0) c.store_copies.ensures.commits_after c.store_copies.ensures.checkpoints_after c.store_copies.ensures.index_after (c.put_out.ensures ∙ ap (λ (v : Volume). volume_bytes.spell v) c.new_volume-v.ensures.0)
