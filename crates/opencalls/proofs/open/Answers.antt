-- 20, 3, or what the plan says: a number, the stored volume, or the new one, which is stored.
use Rattle.std.proofs.Common.{sym, ◌∙◌}
use Rattle.viewcalls.proofs.Ends.{no_volumes, no_commits}
use Rattle.opencalls.specs.Opens.{asked, spares}
use Rattle.opencalls.proofs.Ends.{unchanged, wrong_size, open_refused, stored_inside, open_stored, new_fits, open_new}
use Rattle.opencalls.proofs.open.Goals as goal

pub returns-then-not-volumes_formed : goal.returns-then-not-volumes_formed
returns-then-not-volumes_formed c = let whole = unchanged c.args.volumes.now c.args.out.now _ 20 (no_volumes c.args.volumes.now c.args.commits.now _ (sym c.volumes_formed.ensures ∙ c.if-not-volumes_formed.true)) in
    record { value = whole.0; volumes_after = whole.1.0; out_after = whole.1.1 }

pub returns-then-not-commits_formed : goal.returns-then-not-commits_formed
returns-then-not-commits_formed c = let whole = unchanged c.args.volumes.now c.args.out.now _ 20 (no_commits c.args.volumes.now c.args.commits.now _ (sym c.commits_formed.ensures ∙ c.if-not-commits_formed.true)) in
    record { value = whole.0; volumes_after = whole.1.0; out_after = whole.1.1 }

pub returns-then-out-ne-VOLUME : goal.returns-then-out-ne-VOLUME
returns-then-out-ne-VOLUME c = let whole = wrong_size c.args.volumes.now c.args.commits.now c.args.out.now (asked c.args.vid c.args.local c.args.remote) (spares c.args.vid c.args.local c.args.remote) (sym c.volumes_formed.ensures ∙ c.if-not-volumes_formed.false) (sym c.commits_formed.ensures ∙ c.if-not-commits_formed.false) c.if-out-ne-VOLUME.true in
    record { value = whole.0; volumes_after = whole.1.0; out_after = whole.1.1 }

pub open_plan-requires : goal.open_plan-requires
open_plan-requires c = ((sym c.volumes_formed.ensures ∙ c.if-not-volumes_formed.false), (sym c.commits_formed.ensures ∙ c.if-not-commits_formed.false))

pub volume_at-requires : goal.volume_at-requires
volume_at-requires c = ((sym c.volumes_formed.ensures ∙ c.if-not-volumes_formed.false), stored_inside c.args.volumes.now c.args.commits.now c.args.out.now (asked c.args.vid c.args.local c.args.remote) (spares c.args.vid c.args.local c.args.remote) (sym c.volumes_formed.ensures ∙ c.if-not-volumes_formed.false) (sym c.commits_formed.ensures ∙ c.if-not-commits_formed.false) c.if-out-ne-VOLUME.false c.open_plan.result c.open_plan.ensures _ c.in-Stored.is)

pub put_out-requires : goal.put_out-requires
put_out-requires c = c.if-out-ne-VOLUME.false

pub new_volume-v-requires : goal.new_volume-v-requires
new_volume-v-requires c = (sym c.commits_formed.ensures ∙ c.if-not-commits_formed.false)

pub put_volume-requires : goal.put_volume-requires
put_volume-requires c = record { t_value = ((sym c.volumes_formed.ensures ∙ c.if-not-volumes_formed.false), c.new_volume-v.ensures.1); t_value_2 = new_fits c.args.volumes.now c.args.commits.now c.args.out.now (asked c.args.vid c.args.local c.args.remote) (spares c.args.vid c.args.local c.args.remote) (sym c.volumes_formed.ensures ∙ c.if-not-volumes_formed.false) (sym c.commits_formed.ensures ∙ c.if-not-commits_formed.false) c.if-out-ne-VOLUME.false c.open_plan.result c.open_plan.ensures c.in-New.is c.new_volume-v.result c.new_volume-v.ensures.0 }

pub put_out-requires-in-New : goal.put_out-requires-in-New
put_out-requires-in-New c = c.if-out-ne-VOLUME.false

pub returns-in-Refused : goal.returns-in-Refused
returns-in-Refused c = let whole = open_refused c.args.volumes.now c.args.commits.now c.args.out.now (asked c.args.vid c.args.local c.args.remote) (spares c.args.vid c.args.local c.args.remote) (sym c.volumes_formed.ensures ∙ c.if-not-volumes_formed.false) (sym c.commits_formed.ensures ∙ c.if-not-commits_formed.false) c.if-out-ne-VOLUME.false c.open_plan.result c.open_plan.ensures _ c.in-Refused.is in
    record { value = whole.0; volumes_after = whole.1.0; out_after = whole.1.1 }

pub returns-in-Stored : goal.returns-in-Stored
returns-in-Stored c = let whole = open_stored c.args.volumes.now c.args.commits.now c.args.out.now (asked c.args.vid c.args.local c.args.remote) (spares c.args.vid c.args.local c.args.remote) (sym c.volumes_formed.ensures ∙ c.if-not-volumes_formed.false) (sym c.commits_formed.ensures ∙ c.if-not-commits_formed.false) c.if-out-ne-VOLUME.false c.open_plan.result c.open_plan.ensures _ c.in-Stored.is (λ j. (c.slice_known-1.given j).fits) c.volume_at.result c.volume_at.ensures _ c.put_out.ensures in
    record { value = whole.0; volumes_after = whole.1.0; out_after = whole.1.1 }

pub returns-in-New : goal.returns-in-New
returns-in-New c = let whole = open_new c.args.volumes.now c.args.commits.now c.args.out.now (asked c.args.vid c.args.local c.args.remote) (spares c.args.vid c.args.local c.args.remote) (sym c.volumes_formed.ensures ∙ c.if-not-volumes_formed.false) (sym c.commits_formed.ensures ∙ c.if-not-commits_formed.false) c.if-out-ne-VOLUME.false c.open_plan.result c.open_plan.ensures c.in-New.is c.new_volume-v.result c.new_volume-v.ensures.0 _ _ c.put_volume.ensures c.put_out-in-New.ensures in
    record { value = whole.0; volumes_after = whole.1.0; out_after = whole.1.1 }
