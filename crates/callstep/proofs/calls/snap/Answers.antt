-- A refusal leaves the slots; else the slot holds the snapshot, whose head is printed.
use Rattle.std.proofs.Common.{sym, ap, ◌∙◌}
use Rattle.volume.specs.Snapshots.{answer_form}
use Rattle.callstep.proofs.Snaps.{snap_refused, snap_head_lem, snap_set}
use Rattle.viewargs.proofs.ViewLaws.{answer_shaped}
use Rattle.callstep.proofs.calls.snap.Goals as goal

pub returns-in-Err : goal.returns-in-Err
returns-in-Err c = let a = c.args in let r = snap_refused a.volumes.now a.commits.now a.vid c.id_of.result c.id_of.ensures c.snapshot.result c.snapshot.ensures a.slot a.slots.now _ _ c.in-Err.is c.number.ensures in record { result_value = c.coded.ensures ∙ r.0; slots_after = r.1 }

pub put-requires : goal.put-requires
put-requires c = let a = c.args in (c.requires.0, c.requires.1, ap answer_form (sym c.in-Ok.is) ∙ answer_shaped a.volumes.now a.commits.now c.id_of.result a.slots.now c.snapshot.result c.snapshot.ensures)

pub returns-in-Ok : goal.returns-in-Ok
returns-in-Ok c = let a = c.args in record { result_value = snap_head_lem a.volumes.now a.commits.now a.vid c.id_of.result c.id_of.ensures c.snapshot.result c.snapshot.ensures a.slot a.slots.now _ c.in-Ok.is _ _ c.short_head.ensures c.head.ensures; slots_after = snap_set a.volumes.now a.commits.now a.vid c.id_of.result c.id_of.ensures c.snapshot.result c.snapshot.ensures a.slot a.slots.now _ c.in-Ok.is _ c.put.ensures }
