-- The volume that is read is the one that stands there; pushed it goes into its place, and the commit is written beside it.
use Rattle.std.proofs.Common.{refl, ap, ◌∙◌}
use Rattle.rules.specs.Records.{Volume}
use Rattle.rules.specs.Push.{pushed_volume}
use Rattle.rules.proofs.Kept.{pushed_form}
use Rattle.pushcalls.proofs.Ends.{inside, read_says, ready_to_store, pushed_bytes}
use Rattle.pushcalls.proofs.push_stored.Goals as goal

pub volume_at-v-requires : goal.volume_at-v-requires
volume_at-v-requires c = (c.requires.volumes, inside c.args.volumes.now c.args.i _ c.requires.stands)

pub store_volume-requires : goal.store_volume-requires
store_volume-requires c = let whole = ready_to_store c.args.volumes.now c.args.i _ c.requires.stands c.requires.volumes c.pushed.result _ (c.pushed.ensures c.requires.pending (ap (λ (z : Volume). z.pending) (read_says c.args.volumes.now c.args.i _ c.requires.stands _ c.volume_at-v.ensures) ∙ c.requires.has) ∙ ap (λ (z : Volume). pushed_volume z c.requires.pending) (read_says c.args.volumes.now c.args.i _ c.requires.stands _ c.volume_at-v.ensures)) refl (pushed_form _ _ c.requires.stands.form c.requires.has) in
    record { t_value = whole.0; t_value_2 = whole.1 }

pub write_stored-requires : goal.write_stored-requires
write_stored-requires c = record { commits_value = c.requires.logs; commit = c.requires.commit; c_value = c.requires.room }

pub returns : goal.returns
returns c = record {
  pushed_at = pushed_bytes c.args.volumes.now c.args.i _ _ _ _ c.requires.stands.there c.requires.has (c.pushed.ensures c.requires.pending (ap (λ (z : Volume). z.pending) (read_says c.args.volumes.now c.args.i _ c.requires.stands _ c.volume_at-v.ensures) ∙ c.requires.has) ∙ ap (λ (z : Volume). pushed_volume z c.requires.pending) (read_says c.args.volumes.now c.args.i _ c.requires.stands _ c.volume_at-v.ensures)) c.store_volume.ensures;
  commits_after = c.write_stored.ensures.commits_after;
  checkpoints_after = c.write_stored.ensures.checkpoints_after;
  index_after = c.write_stored.ensures.index_after;
}
