-- A refusal is put as its number; else the lent slice is of another length, or a snapshot in form fills it. Assumes nothing.
use Rattle.std.proofs.Common.{◌≡◌, ℕ, List, true, sym, ap, ◌∙◌, arith}
use Rattle.octets.proofs.Places.{put_all}
use Rattle.volume.specs.Snapshots.{answer_form}
use Rattle.arguments.specs.declared.Reply.{Reply}
use Rattle.arguments.specs.Replies.{given}
use Rattle.arguments.proofs.SnapshotLaws.{put_short, put_whole}
use Rattle.arguments.proofs.snapshots.put_snapshot.Goals as goal

pub returns-in-Err : goal.returns-in-Err
returns-in-Err c = rw c.in-Err.is (ap (λ (r : Reply). (r, c.args.out.now)) c.refused.ensures)

pub returns-then-out-ne-SNAPSHOT : goal.returns-then-out-ne-SNAPSHOT
returns-then-out-ne-SNAPSHOT c = rw c.in-Ok.is (ap (λ (r : Reply). (r, c.args.out.now)) c.refused-then-out-ne-SNAPSHOT.ensures ∙ put_short _ _ c.if-out-ne-SNAPSHOT.true)

pub snapshot_write-requires : goal.snapshot_write-requires
snapshot_write-requires c = (omega (arith, c.if-out-ne-SNAPSHOT.false), ap answer_form (sym c.in-Ok.is) ∙ c.requires)

pub returns-else-out-ne-SNAPSHOT : goal.returns-else-out-ne-SNAPSHOT
returns-else-out-ne-SNAPSHOT c = rw c.in-Ok.is (ap (λ (b : List ℕ). (given, b)) (c.snapshot_write.ensures.s_after ∙ put_all _ _ (c.snapshot_write.ensures.snapshot_len ∙ sym c.if-out-ne-SNAPSHOT.false)) ∙ put_whole _ _ c.if-out-ne-SNAPSHOT.false)
