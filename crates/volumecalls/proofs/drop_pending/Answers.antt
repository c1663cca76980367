-- 20 where the table is not formed, 4 where the volume is not found; else it is stored without its pending commit.
use Rattle.std.proofs.Common.{sym, ap, ◌∙◌}
use mathlib.Core.Option.{Option, none}
use Rattle.basics.specs.Answers.{done, need, ◌>>=◌}
use Rattle.layout.specs.Records.{volume_bytes}
use Rattle.layout.proofs.LentLaws.{lent_no, unchanged, changed}
use Rattle.rules.specs.Records.{Volume}
use Rattle.rules.specs.Tables.{store}
use Rattle.layout.specs.Tables.{volumes_in}
use Rattle.table.proofs.Ends.{at_in}
use Rattle.volumecalls.proofs.Ends.{nowhere, drop_is, drop_ready, drop_done}
use Rattle.rules.specs.Records.{volume_key}
use Rattle.rules.specs.Push.{with_pending}
use Rattle.basics.specs.Orders.{bytes}
use Rattle.volumecalls.proofs.drop_pending.Goals as goal

pub returns-then-not-volumes_formed : goal.returns-then-not-volumes_formed
returns-then-not-volumes_formed c = let whole = unchanged volume_bytes c.args.volumes.now _ 20 (lent_no _ _ (sym c.volumes_formed.ensures ∙ c.if-not-volumes_formed.true)) in
    record { value = whole.0; volumes_after = whole.1 }

pub find_volume-requires : goal.find_volume-requires
find_volume-requires c = (sym c.volumes_formed.ensures ∙ c.if-not-volumes_formed.false)

pub returns-in_default : goal.returns-in_default
returns-in_default c = let whole = unchanged volume_bytes c.args.volumes.now _ 4 (drop_is c.args.volumes.now c.args.vid (sym c.volumes_formed.ensures ∙ c.if-not-volumes_formed.false) ∙ ap (λ (o : Option Volume). need o 4 >>= (λ v. done (store volume_key bytes (with_pending v none) (volumes_in c.args.volumes.now)))) (nowhere c.args.volumes.now c.args.vid (sym c.volumes_formed.ensures ∙ c.if-not-volumes_formed.false) _ _ c.find_volume.ensures.says c.in_default.is)) in
    record { value = whole.0; volumes_after = whole.1 }

pub volume_at-v-requires : goal.volume_at-v-requires
volume_at-v-requires c = ((sym c.volumes_formed.ensures ∙ c.if-not-volumes_formed.false), at_in 117 17 c.args.volumes.now _ _ _ c.find_volume.ensures.place c.in-Ok.is)

pub store_volume-requires : goal.store_volume-requires
store_volume-requires c = let whole = drop_ready c.args.volumes.now c.args.vid (sym c.volumes_formed.ensures ∙ c.if-not-volumes_formed.false) _ _ c.find_volume.ensures.place c.find_volume.ensures.says c.in-Ok.is c.volume_at-v.result c.with_pending_commit.result c.volume_at-v.ensures c.with_pending_commit.ensures in
    record { t_value = whole.0; t_value_2 = whole.1 }

pub returns : goal.returns
returns c = let whole = changed volume_bytes c.args.volumes.now _ _ _ (drop_done c.args.volumes.now c.args.vid (sym c.volumes_formed.ensures ∙ c.if-not-volumes_formed.false) _ _ c.find_volume.ensures.place c.find_volume.ensures.says c.in-Ok.is c.volume_at-v.result c.with_pending_commit.result c.volume_at-v.ensures c.with_pending_commit.ensures) c.store_volume.ensures in
    record { value = whole.0; volumes_after = whole.1 }
