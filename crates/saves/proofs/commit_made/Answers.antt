-- The builders make the rules' commit, laid out.
use Rattle.std.proofs.Common.{set, ap, ◌∙◌, ap₂}
use Rattle.commit.specs.Builders.{with_segment, with_checkpoints}
use Rattle.commit.specs.declared.Presence.TheVariants.{Given}
use Rattle.volume.specs.Volumes.{volume_says}
use Rattle.saves.proofs.Made.{not_whole, whole}
use Rattle.saves.proofs.commit_made.Goals as goal

pub returns-then-count-cardinality : goal.returns-then-count-cardinality
returns-then-count-cardinality c =
    let a = c.args in
    not_whole (volume_says a.v) a.lsn a.count a.sid a.set c.requires c.cardinality.result.0 c.cardinality.ensures c.if-count-cardinality.true _ (c.with_segment_idx-c.ensures ∙ ap₂ (λ x y. with_segment x Given y) c.new.ensures c.new-segment.ensures)

pub returns : goal.returns
returns c =
    let a = c.args in
    whole (volume_says a.v) a.lsn a.count a.sid a.set c.requires c.cardinality.result.0 c.cardinality.ensures c.if-count-cardinality.false _ c.no_checkpoints-lsns.ensures _ (c.with_checkpoints.ensures ∙ ap (λ x. with_checkpoints x 1 (set c.no_checkpoints-lsns.result 0 a.lsn)) (c.with_segment_idx-c.ensures ∙ ap₂ (λ x y. with_segment x Given y) c.new.ensures c.new-segment.ensures))
