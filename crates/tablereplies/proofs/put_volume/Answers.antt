-- The tests are those of the definition, in its order; a volume's bytes fill the lent place. Assumes nothing.
use Rattle.std.proofs.Common.{ℕ, List, sym, ap, ◌∙◌}
use Rattle.octets.specs.Guards.{if_true_of, if_false_of}
use Rattle.layout.specs.Records.{volume_bytes}
use Rattle.volume.specs.Volumes.{volume_says}
use Rattle.arguments.specs.Replies.{given, value}
use Rattle.arguments.specs.declared.Reply.{Reply}
use Rattle.tablereplies.specs.Records.{says_by, volume_put}
use Rattle.tablereplies.proofs.ReplyLaws.{unplaced, in_place}
use Rattle.tablereplies.proofs.put_volume.Goals as goal

pub returns-then-is_unformed : goal.returns-then-is_unformed
unfolding volume_put
returns-then-is_unformed g c = if_true_of _ _ _ _ _ c.is_unformed.ensures c.if-is_unformed.true (ap (λ (r : Reply). (r, c.args.out.now)) c.refused.ensures)

pub returns-then-out-ne-VOLUME : goal.returns-then-out-ne-VOLUME
unfolding volume_put
returns-then-out-ne-VOLUME g c = if_false_of _ _ _ _ _ c.is_unformed.ensures c.if-is_unformed.false (ap (λ (r : Reply). (r, c.args.out.now)) c.refused-then-out-ne-VOLUME.ensures ∙ unplaced c.args.out.now _ c.if-out-ne-VOLUME.true)

pub returns-in-Err : goal.returns-in-Err
unfolding volume_put
returns-in-Err g c =
    let put = ap (λ a. value volume_bytes.spell c.args.out.now (says_by g.R.Numbered.number volume_says a)) (sym c.in-Err.is) in
    if_false_of _ _ _ _ _ c.is_unformed.ensures c.if-is_unformed.false (ap (λ (r : Reply). (r, c.args.out.now)) c.told.ensures ∙ put ∙ in_place c.args.out.now _ c.if-out-ne-VOLUME.false)

pub put_out-requires : goal.put_out-requires
put_out-requires g c = c.if-out-ne-VOLUME.false

pub returns-in-Ok : goal.returns-in-Ok
unfolding volume_put
returns-in-Ok g c =
    let put = ap (λ a. value volume_bytes.spell c.args.out.now (says_by g.R.Numbered.number volume_says a)) (sym c.in-Ok.is) in
    if_false_of _ _ _ _ _ c.is_unformed.ensures c.if-is_unformed.false (ap (λ (b : List ℕ). (given, b)) c.put_out.ensures ∙ put ∙ in_place c.args.out.now _ c.if-out-ne-VOLUME.false)
