-- Each check that fails is the number; the pushed volume keeps its identifier, so it fits.
use Rattle.std.proofs.Common.{sym, refl, ap, ◌∙◌}
use Rattle.volume.specs.Volumes.{volume_says, pending_says}
use Rattle.writecalls.specs.Written.{commit_in, logs_in}
use Rattle.pushcalls.proofs.Ends.{none_pending, not_pending, other_there, full, goes}
use Rattle.pushcalls.proofs.push_number.Goals as goal

pub returns-in_default : goal.returns-in_default
returns-in_default c = λ vs fit. none_pending vs (logs_in c.args.commits.now c.args.checkpoints.now c.args.index.now) (volume_says c.args.v) (commit_in c.args.c.now) (ap pending_says c.in_default.is)

pub returns-then-not-is_pending : goal.returns-then-not-is_pending
returns-then-not-is_pending c = λ vs fit. not_pending vs (logs_in c.args.commits.now c.args.checkpoints.now c.args.index.now) (volume_says c.args.v) (commit_in c.args.c.now) _ (ap pending_says c.in-Some.is) (sym c.is_pending.ensures ∙ c.if-not-is_pending.true)

pub returns-then-not-same_there : goal.returns-then-not-same_there
returns-then-not-same_there c = λ vs fit. other_there vs (logs_in c.args.commits.now c.args.checkpoints.now c.args.index.now) (volume_says c.args.v) (commit_in c.args.c.now) _ (ap pending_says c.in-Some.is) (sym c.is_pending.ensures ∙ c.if-not-is_pending.false) (sym c.same_there.ensures ∙ c.if-not-same_there.true)

pub returns-then-not-write_room : goal.returns-then-not-write_room
returns-then-not-write_room c = λ vs fit. full vs (logs_in c.args.commits.now c.args.checkpoints.now c.args.index.now) (volume_says c.args.v) (commit_in c.args.c.now) _ (ap pending_says c.in-Some.is) (sym c.is_pending.ensures ∙ c.if-not-is_pending.false) (sym c.same_there.ensures ∙ c.if-not-same_there.false) (fit _ refl) (sym c.write_room.ensures ∙ c.if-not-write_room.true)

pub returns : goal.returns
returns c = λ vs fit. goes vs (logs_in c.args.commits.now c.args.checkpoints.now c.args.index.now) (volume_says c.args.v) (commit_in c.args.c.now) _ (ap pending_says c.in-Some.is) (sym c.is_pending.ensures ∙ c.if-not-is_pending.false) (sym c.same_there.ensures ∙ c.if-not-same_there.false) (fit _ refl) (sym c.write_room.ensures ∙ c.if-not-write_room.false)
