-- `writecalls::room_for_commit` meets its contract: room for the row is room for the commit that it spells.
use Rattle.std.proofs.Common.{◌∙◌, arith}
use Rattle.rows.proofs.Rows.{formed_well}
use Rattle.rows.proofs.Tables.{commits}
use Rattle.writecalls.proofs.Writes.{commit_fits}
use Rattle.writecalls.proofs.room_for_commit.Goals as goal

pub room-requires : goal.room-requires
room-requires c = record { stride_nonzero = (omega arith, omega arith, omega (arith, c.requires.1.0)); t_value = formed_well commits c.args.t.now c.requires.0 }

pub returns : goal.returns
returns c =
    let a = c.args in
    let p = c.requires in
    c.room.ensures ∙ commit_fits a.t.now a.c.now p.0 p.1
