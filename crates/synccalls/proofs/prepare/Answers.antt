-- Each refusal of the rule in its turn; else the volume with the pending commit, in its place.
use Rattle.std.proofs.Common.{◌≡◌, ℕ, true, ◌&&◌, get_or, sym, ap, ◌∙◌, w8, w64, Fits, rules}
use mathlib.Core.Option.{Option}
use Rattle.basics.specs.Answers.{done}
use Rattle.basics.specs.Numbers.{counts}
use Rattle.basics.specs.Orders.{bytes}
use Rattle.rules.specs.Records.{Pending, Volume, volume_key}
use Rattle.rules.specs.Forms.{pending_form, volume_form}
use Rattle.rules.specs.Tables.{store}
use Rattle.rules.specs.Snapshots.{below}
use Rattle.rules.specs.Push.{is_before}
use Rattle.table.proofs.Ends.{at_in}
use Rattle.layout.specs.Tables.{volumes_in}
use Rattle.volume.specs.Volumes.{volume_says}
use Rattle.volume.specs.declared.volume.Volume.{Volume as CodeVolume}
use Rattle.layout.specs.Records.{volume_bytes}
use Rattle.layout.proofs.LentLaws.{unchanged, changed}
use Rattle.volumecalls.proofs.Ends.{nowhere}
use Rattle.viewcalls.proofs.Ends.{no_volumes, no_commits}
use Rattle.synccalls.proofs.Ends.{prepare_zero, prepare_nowhere, prepare_pending, prepare_pushed, prepare_apart, prepare_zero_hash, prepare_done, found_here, form_here, store_ready, pushes, prepared_form}
use Rattle.synccalls.proofs.prepare.Goals as goal

pub returns-then-not-volumes_formed : goal.returns-then-not-volumes_formed
returns-then-not-volumes_formed c = let whole = unchanged volume_bytes c.args.volumes.now _ 20 (no_volumes c.args.volumes.now c.args.commits.now _ (sym c.volumes_formed.ensures ∙ c.if-not-volumes_formed.true)) in
    record { value = whole.0; volumes_after = whole.1 }

pub returns-then-not-commits_formed : goal.returns-then-not-commits_formed
returns-then-not-commits_formed c = let whole = unchanged volume_bytes c.args.volumes.now _ 20 (no_commits c.args.volumes.now c.args.commits.now _ (sym c.commits_formed.ensures ∙ c.if-not-commits_formed.true)) in
    record { value = whole.0; volumes_after = whole.1 }

pub returns-then-not-both_count : goal.returns-then-not-both_count
returns-then-not-both_count c =
    -- the pending commit that was asked for, and that it is in form
    let asked : Pending = record { local = c.args.local.0; commit = c.args.commit.0; hash = c.args.hash } in
    let whole = unchanged volume_bytes c.args.volumes.now _ 1 (prepare_zero c.args.volumes.now c.args.commits.now c.args.vid (asked) (sym c.volumes_formed.ensures ∙ c.if-not-volumes_formed.false) (sym c.commits_formed.ensures ∙ c.if-not-commits_formed.false) (sym c.both_count.ensures ∙ c.if-not-both_count.true)) in
    record { value = whole.0; volumes_after = whole.1 }

pub find_volume-requires : goal.find_volume-requires
find_volume-requires c = (sym c.volumes_formed.ensures ∙ c.if-not-volumes_formed.false)

pub returns-in_default : goal.returns-in_default
returns-in_default c =
    let asked : Pending = record { local = c.args.local.0; commit = c.args.commit.0; hash = c.args.hash } in
    let whole = unchanged volume_bytes c.args.volumes.now _ 4 (prepare_nowhere c.args.volumes.now c.args.commits.now c.args.vid (asked) (sym c.volumes_formed.ensures ∙ c.if-not-volumes_formed.false) (sym c.commits_formed.ensures ∙ c.if-not-commits_formed.false) (sym c.both_count.ensures ∙ c.if-not-both_count.false) (nowhere c.args.volumes.now c.args.vid (sym c.volumes_formed.ensures ∙ c.if-not-volumes_formed.false) _ _ c.find_volume.ensures.says c.in_default.is)) in
    record { value = whole.0; volumes_after = whole.1 }

pub volume_at-v-requires : goal.volume_at-v-requires
volume_at-v-requires c = ((sym c.volumes_formed.ensures ∙ c.if-not-volumes_formed.false), at_in 117 17 c.args.volumes.now _ _ _ c.find_volume.ensures.place c.in-Ok.is)

pub returns-then-not-none_pending : goal.returns-then-not-none_pending
returns-then-not-none_pending c =
    let asked : Pending = record { local = c.args.local.0; commit = c.args.commit.0; hash = c.args.hash } in
    let whole = unchanged volume_bytes c.args.volumes.now _ 9 (prepare_pending c.args.volumes.now c.args.commits.now c.args.vid (asked) (sym c.volumes_formed.ensures ∙ c.if-not-volumes_formed.false) (sym c.commits_formed.ensures ∙ c.if-not-commits_formed.false) (sym c.both_count.ensures ∙ c.if-not-both_count.false) (volume_says c.volume_at-v.result) (found_here c.args.volumes.now c.args.vid (sym c.volumes_formed.ensures ∙ c.if-not-volumes_formed.false) _ _ c.find_volume.ensures.says c.in-Ok.is c.volume_at-v.result c.volume_at-v.ensures) (sym c.none_pending.ensures ∙ c.if-not-none_pending.true)) in
    record { value = whole.0; volumes_after = whole.1 }

pub returns-then-not-is_below : goal.returns-then-not-is_below
returns-then-not-is_below c =
    let asked : Pending = record { local = c.args.local.0; commit = c.args.commit.0; hash = c.args.hash } in
    let whole = unchanged volume_bytes c.args.volumes.now _ 11 (prepare_pushed c.args.volumes.now c.args.commits.now c.args.vid (asked) (sym c.volumes_formed.ensures ∙ c.if-not-volumes_formed.false) (sym c.commits_formed.ensures ∙ c.if-not-commits_formed.false) (sym c.both_count.ensures ∙ c.if-not-both_count.false) (volume_says c.volume_at-v.result) (found_here c.args.volumes.now c.args.vid (sym c.volumes_formed.ensures ∙ c.if-not-volumes_formed.false) _ _ c.find_volume.ensures.says c.in-Ok.is c.volume_at-v.result c.volume_at-v.ensures) (sym c.none_pending.ensures ∙ c.if-not-none_pending.false) (ap (λ (m : Option ℕ). below m c.args.local.0) (sym c.watermark_of.ensures) ∙ sym c.is_below.ensures ∙ c.if-not-is_below.true)) in
    record { value = whole.0; volumes_after = whole.1 }

pub latest_lsn-requires : goal.latest_lsn-requires
latest_lsn-requires c = (sym c.commits_formed.ensures ∙ c.if-not-commits_formed.false)

pub returns-then-not-is_next : goal.returns-then-not-is_next
returns-then-not-is_next c =
    let asked : Pending = record { local = c.args.local.0; commit = c.args.commit.0; hash = c.args.hash } in
    let whole = unchanged volume_bytes c.args.volumes.now _ 12 (prepare_apart c.args.volumes.now c.args.commits.now c.args.vid (asked) (sym c.volumes_formed.ensures ∙ c.if-not-volumes_formed.false) (sym c.commits_formed.ensures ∙ c.if-not-commits_formed.false) (sym c.both_count.ensures ∙ c.if-not-both_count.false) (volume_says c.volume_at-v.result) (found_here c.args.volumes.now c.args.vid (sym c.volumes_formed.ensures ∙ c.if-not-volumes_formed.false) _ _ c.find_volume.ensures.says c.in-Ok.is c.volume_at-v.result c.volume_at-v.ensures) (sym c.none_pending.ensures ∙ c.if-not-none_pending.false) (ap (λ (m : Option ℕ). below m c.args.local.0) (sym c.watermark_of.ensures) ∙ sym c.is_below.ensures ∙ c.if-not-is_below.false) (ap (λ (m : Option ℕ). is_before m c.args.commit.0) (sym c.latest_lsn.ensures) ∙ sym c.is_next.ensures ∙ c.if-not-is_next.true)) in
    record { value = whole.0; volumes_after = whole.1 }

pub returns-then-is_zero : goal.returns-then-is_zero
returns-then-is_zero c =
    let asked : Pending = record { local = c.args.local.0; commit = c.args.commit.0; hash = c.args.hash } in
    let whole = unchanged volume_bytes c.args.volumes.now _ 13 (prepare_zero_hash c.args.volumes.now c.args.commits.now c.args.vid (asked) (sym c.volumes_formed.ensures ∙ c.if-not-volumes_formed.false) (sym c.commits_formed.ensures ∙ c.if-not-commits_formed.false) (sym c.both_count.ensures ∙ c.if-not-both_count.false) (volume_says c.volume_at-v.result) (found_here c.args.volumes.now c.args.vid (sym c.volumes_formed.ensures ∙ c.if-not-volumes_formed.false) _ _ c.find_volume.ensures.says c.in-Ok.is c.volume_at-v.result c.volume_at-v.ensures) (sym c.none_pending.ensures ∙ c.if-not-none_pending.false) (ap (λ (m : Option ℕ). below m c.args.local.0) (sym c.watermark_of.ensures) ∙ sym c.is_below.ensures ∙ c.if-not-is_below.false) (ap (λ (m : Option ℕ). is_before m c.args.commit.0) (sym c.latest_lsn.ensures) ∙ sym c.is_next.ensures ∙ c.if-not-is_next.false) (sym c.is_zero.ensures ∙ c.if-is_zero.true)) in
    record { value = whole.0; volumes_after = whole.1 }

pub to_push-pending-requires : goal.to_push-pending-requires
to_push-pending-requires c = sym c.both_count.ensures ∙ c.if-not-both_count.false

pub store_volume-requires : goal.store_volume-requires
store_volume-requires c =
    let asked : Pending = record { local = c.args.local.0; commit = c.args.commit.0; hash = c.args.hash } in
    let whole = store_ready c.args.volumes.now c.args.vid (sym c.volumes_formed.ensures ∙ c.if-not-volumes_formed.false) _ _ c.find_volume.ensures.says c.in-Ok.is c.volume_at-v.result c.volume_at-v.ensures c.find_volume.ensures.place c.with_pending_commit.result (ap (λ (z : CodeVolume). z.vid) c.with_pending_commit.ensures) (ap volume_form (ap volume_says (pushes c.volume_at-v.result c.with_pending_commit.result c.to_push-pending.result _ c.with_pending_commit.ensures c.to_push-pending.ensures.value)) ∙ prepared_form (volume_says c.volume_at-v.result) (asked) (form_here c.args.volumes.now c.args.vid (sym c.volumes_formed.ensures ∙ c.if-not-volumes_formed.false) _ _ c.find_volume.ensures.says c.in-Ok.is c.volume_at-v.result c.volume_at-v.ensures) c.to_push-pending.ensures.form) in
    record { t_value = whole.0; t_value_2 = whole.1 }

pub returns : goal.returns
returns c =
    let asked : Pending = record { local = c.args.local.0; commit = c.args.commit.0; hash = c.args.hash } in
    let whole = changed volume_bytes c.args.volumes.now _ _ _ (prepare_done c.args.volumes.now c.args.commits.now c.args.vid (asked) (sym c.volumes_formed.ensures ∙ c.if-not-volumes_formed.false) (sym c.commits_formed.ensures ∙ c.if-not-commits_formed.false) (sym c.both_count.ensures ∙ c.if-not-both_count.false) (volume_says c.volume_at-v.result) (found_here c.args.volumes.now c.args.vid (sym c.volumes_formed.ensures ∙ c.if-not-volumes_formed.false) _ _ c.find_volume.ensures.says c.in-Ok.is c.volume_at-v.result c.volume_at-v.ensures) (sym c.none_pending.ensures ∙ c.if-not-none_pending.false) (ap (λ (m : Option ℕ). below m c.args.local.0) (sym c.watermark_of.ensures) ∙ sym c.is_below.ensures ∙ c.if-not-is_below.false) (ap (λ (m : Option ℕ). is_before m c.args.commit.0) (sym c.latest_lsn.ensures) ∙ sym c.is_next.ensures ∙ c.if-not-is_next.false) (sym c.is_zero.ensures ∙ c.if-is_zero.false) ∙ ap (λ (z : Volume). done (store volume_key bytes z (volumes_in c.args.volumes.now))) (sym (ap volume_says (pushes c.volume_at-v.result c.with_pending_commit.result c.to_push-pending.result _ c.with_pending_commit.ensures c.to_push-pending.ensures.value)))) c.store_volume.ensures in
    record { value = whole.0; volumes_after = whole.1 }
