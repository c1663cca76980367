-- The plan by room has no refusal exactly where there is room.
use Rattle.std.proofs.Common.{◌∙◌}
use Rattle.writecalls.proofs.Writes.{room_is}
use Rattle.writecalls.proofs.write_room.Goals as goal

pub returns : goal.returns
returns c = c.is_ok.ensures.value ∙ room_is c.args.commits.now c.args.checkpoints.now c.args.index.now c.args.c.now c.room_plan.result _ c.room_plan.ensures
