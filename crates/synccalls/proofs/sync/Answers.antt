-- 20 where a table is not formed, 4 where the volume is not found; else what was decided on it, and where that is a move, the moved volume in its place.
use Rattle.std.proofs.Common.{Option, Some, None, Ok, sym, ap, ◌∙◌}
use Rattle.std.proofs.lemmas.Result.{err_from_is_err_and}
use Rattle.basics.specs.Answers.{done}
use Rattle.basics.specs.Orders.{bytes}
use Rattle.rules.specs.Records.{Volume, volume_key}
use Rattle.rules.specs.Tables.{store}
use Rattle.table.proofs.Ends.{at_in}
use Rattle.layout.specs.Tables.{volumes_in}
use Rattle.volume.specs.declared.volume.Volume.{Volume as CodeVolume}
use Rattle.layout.specs.Records.{volume_bytes}
use Rattle.layout.proofs.LentLaws.{unchanged, changed}
use Rattle.volumecalls.proofs.Ends.{nowhere}
use Rattle.viewcalls.proofs.Ends.{no_volumes, no_commits}
use Rattle.basics.specs.declared.lsn.Lsn.{Lsn}
use Rattle.synccalls.proofs.Ends.{sync_nowhere, sync_decided, found_here, form_here, store_ready, kept, moved_says, moved_ready}
use Rattle.synccalls.proofs.sync.Goals as goal

pub returns-then-not-volumes_formed : goal.returns-then-not-volumes_formed
returns-then-not-volumes_formed c = let whole = unchanged volume_bytes c.args.volumes.now _ 20 (no_volumes c.args.volumes.now c.args.commits.now _ (sym c.volumes_formed.ensures ∙ c.if-not-volumes_formed.true)) in
    record { value = whole.0; volumes_after = whole.1 }

pub returns-then-not-commits_formed : goal.returns-then-not-commits_formed
returns-then-not-commits_formed c = let whole = unchanged volume_bytes c.args.volumes.now _ 20 (no_commits c.args.volumes.now c.args.commits.now _ (sym c.commits_formed.ensures ∙ c.if-not-commits_formed.true)) in
    record { value = whole.0; volumes_after = whole.1 }

pub find_volume-requires : goal.find_volume-requires
find_volume-requires c = (sym c.volumes_formed.ensures ∙ c.if-not-volumes_formed.false)

pub returns-in_default : goal.returns-in_default
returns-in_default c = let whole = unchanged volume_bytes c.args.volumes.now _ 4 (sync_nowhere c.args.volumes.now c.args.commits.now c.args.vid (sym c.volumes_formed.ensures ∙ c.if-not-volumes_formed.false) (sym c.commits_formed.ensures ∙ c.if-not-commits_formed.false) (nowhere c.args.volumes.now c.args.vid (sym c.volumes_formed.ensures ∙ c.if-not-volumes_formed.false) _ _ c.find_volume.ensures.says c.in_default.is)) in
    record { value = whole.0; volumes_after = whole.1 }

pub volume_at-v-requires : goal.volume_at-v-requires
volume_at-v-requires c = ((sym c.volumes_formed.ensures ∙ c.if-not-volumes_formed.false), at_in 117 17 c.args.volumes.now _ _ _ c.find_volume.ensures.place c.in-Ok.is)

pub pull_of-requires : goal.pull_of-requires
pull_of-requires c = ((sym c.commits_formed.ensures ∙ c.if-not-commits_formed.false), form_here c.args.volumes.now c.args.vid (sym c.volumes_formed.ensures ∙ c.if-not-volumes_formed.false) _ _ c.find_volume.ensures.says c.in-Ok.is c.volume_at-v.result c.volume_at-v.ensures)

pub store_volume-requires : goal.store_volume-requires
store_volume-requires c = let whole = store_ready c.args.volumes.now c.args.vid (sym c.volumes_formed.ensures ∙ c.if-not-volumes_formed.false) _ _ c.find_volume.ensures.says c.in-Ok.is c.volume_at-v.result c.volume_at-v.ensures c.find_volume.ensures.place c.with_sync.result (ap (λ (z : CodeVolume). z.vid) c.with_sync.ensures) (moved_ready c.volume_at-v.result c.with_sync.result c.in-Some.remote c.pull_of.result (moved_says c.volume_at-v.result c.with_sync.result c.in-Some.remote c.watermark_of-watermark.result c.watermark_of-watermark.ensures c.with_sync.ensures) (form_here c.args.volumes.now c.args.vid (sym c.volumes_formed.ensures ∙ c.if-not-volumes_formed.false) _ _ c.find_volume.ensures.says c.in-Ok.is c.volume_at-v.result c.volume_at-v.ensures) (c.in_ok-remote.was ∙ ap (λ (o : Option Lsn). Ok o) c.in-Some.is) c.pull_of.ensures.form) in
    record { t_value = whole.0; t_value_2 = whole.1 }

pub returns-in_err-remote : goal.returns-in_err-remote
returns-in_err-remote c =
    let p = err_from_is_err_and c.from_residual.result c.from_residual.ensures.1 in
    let whole = unchanged volume_bytes c.args.volumes.now _ _ (sync_decided c.args.volumes.now c.args.commits.now c.args.vid (sym c.volumes_formed.ensures ∙ c.if-not-volumes_formed.false) (sym c.commits_formed.ensures ∙ c.if-not-commits_formed.false) c.volume_at-v.result c.pull_of.result _ (found_here c.args.volumes.now c.args.vid (sym c.volumes_formed.ensures ∙ c.if-not-volumes_formed.false) _ _ c.find_volume.ensures.says c.in-Ok.is c.volume_at-v.result c.volume_at-v.ensures) c.pull_of.ensures c.in_err-remote.was) in
    rw (p.1, p.2) (record { value = whole.0; volumes_after = whole.1 })

pub returns-in_default-2 : goal.returns-in_default-2
returns-in_default-2 c =
    let whole = kept c.args.volumes.now _ (λ j. (c.slice_known-1.given j).fits) (sym c.volumes_formed.ensures ∙ c.if-not-volumes_formed.false) (sync_decided c.args.volumes.now c.args.commits.now c.args.vid (sym c.volumes_formed.ensures ∙ c.if-not-volumes_formed.false) (sym c.commits_formed.ensures ∙ c.if-not-commits_formed.false) c.volume_at-v.result c.pull_of.result (Ok None) (found_here c.args.volumes.now c.args.vid (sym c.volumes_formed.ensures ∙ c.if-not-volumes_formed.false) _ _ c.find_volume.ensures.says c.in-Ok.is c.volume_at-v.result c.volume_at-v.ensures) c.pull_of.ensures (c.in_ok-remote.was ∙ ap (λ (o : Option Lsn). Ok o) c.in_default-2.is)) in
    record { value = whole.0; volumes_after = whole.1 }

pub returns : goal.returns
returns c = let whole = changed volume_bytes c.args.volumes.now _ _ _ (sync_decided c.args.volumes.now c.args.commits.now c.args.vid (sym c.volumes_formed.ensures ∙ c.if-not-volumes_formed.false) (sym c.commits_formed.ensures ∙ c.if-not-commits_formed.false) c.volume_at-v.result c.pull_of.result (Ok (Some c.in-Some.remote)) (found_here c.args.volumes.now c.args.vid (sym c.volumes_formed.ensures ∙ c.if-not-volumes_formed.false) _ _ c.find_volume.ensures.says c.in-Ok.is c.volume_at-v.result c.volume_at-v.ensures) c.pull_of.ensures (c.in_ok-remote.was ∙ ap (λ (o : Option Lsn). Ok o) c.in-Some.is) ∙ ap (λ (z : Volume). done (store volume_key bytes z (volumes_in c.args.volumes.now))) (sym (moved_says c.volume_at-v.result c.with_sync.result c.in-Some.remote c.watermark_of-watermark.result c.watermark_of-watermark.ensures c.with_sync.ensures))) c.store_volume.ensures in
    record { value = whole.0; volumes_after = whole.1 }
