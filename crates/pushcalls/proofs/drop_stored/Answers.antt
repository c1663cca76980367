-- The volume that is read is the one that stands there; without its pending commit it goes into its place.
use Rattle.std.proofs.Common.{refl, ap, ◌∙◌}
use mathlib.Core.Option.{none}
use Rattle.rules.specs.Records.{Volume}
use Rattle.rules.specs.Push.{with_pending}
use Rattle.volume.specs.Volumes.{volume_says}
use Rattle.rules.proofs.Kept.{pending_form_lem}
use Rattle.pushcalls.proofs.Ends.{inside, read_says, ready_to_store, dropped_bytes}
use Rattle.pushcalls.proofs.drop_stored.Goals as goal

pub volume_at-v-requires : goal.volume_at-v-requires
volume_at-v-requires c = (c.requires.0, inside c.args.volumes.now c.args.i _ c.requires.1.1)

pub store_volume-requires : goal.store_volume-requires
store_volume-requires c = let whole = ready_to_store c.args.volumes.now c.args.i _ c.requires.1.1 c.requires.0 c.with_pending_commit.result _ (ap volume_says c.with_pending_commit.ensures ∙ ap (λ (z : Volume). with_pending z none) (read_says c.args.volumes.now c.args.i _ c.requires.1.1 _ c.volume_at-v.ensures)) refl (pending_form_lem _ none c.requires.1.1.form refl) in
    record { t_value = whole.0; t_value_2 = whole.1 }

pub returns : goal.returns
returns c = dropped_bytes c.args.volumes.now c.args.i _ _ _ c.requires.1.1.there (ap volume_says c.with_pending_commit.ensures ∙ ap (λ (z : Volume). with_pending z none) (read_says c.args.volumes.now c.args.i _ c.requires.1.1 _ c.volume_at-v.ensures)) c.store_volume.ensures
