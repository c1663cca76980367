-- The parser names the call; each arm is the step of its call.
use Rattle.std.proofs.Common.{arith}
use Rattle.callstep.proofs.StepLaws.{snap_slot, find_slot, save_slot, save_pages, fetch_pages, refuses, opens, pulls, snaps, finds, saves, fetches}
use Rattle.callstep.proofs.step.Goals as goal

pub snap-requires : goal.snap-requires
snap-requires c = let a = c.args in (snap_slot a.volumes.now a.commits.now a.checkpoints.now a.index.now a.presence.now a.slots.now a.line.now c.parse-call.result c.parse-call.ensures.result_value c.parse-call.ensures.placed c.in-Snap.vid c.in-Snap.slot c.in-Snap.is, c.requires)

pub slice_bounds-save-count : goal.slice_bounds-save-count
slice_bounds-save-count c = let a = c.args in let h = save_pages a.volumes.now a.commits.now a.checkpoints.now a.index.now a.presence.now a.slots.now a.line.now c.parse-call.result c.parse-call.ensures.result_value c.parse-call.ensures.placed c.in-Save.vid c.in-Save.slot c.in-Save.count c.in-Save.sid c.in-Save.from c.in-Save.to c.in-Save.is in omega (arith, h.0)

pub save-requires : goal.save-requires
save-requires c = let a = c.args in (save_slot a.volumes.now a.commits.now a.checkpoints.now a.index.now a.presence.now a.slots.now a.line.now c.parse-call.result c.parse-call.ensures.result_value c.parse-call.ensures.placed c.in-Save.vid c.in-Save.slot c.in-Save.count c.in-Save.sid c.in-Save.from c.in-Save.to c.in-Save.is, c.requires, (save_pages a.volumes.now a.commits.now a.checkpoints.now a.index.now a.presence.now a.slots.now a.line.now c.parse-call.result c.parse-call.ensures.result_value c.parse-call.ensures.placed c.in-Save.vid c.in-Save.slot c.in-Save.count c.in-Save.sid c.in-Save.from c.in-Save.to c.in-Save.is).2)

pub find-requires : goal.find-requires
find-requires c = let a = c.args in (find_slot a.volumes.now a.commits.now a.checkpoints.now a.index.now a.presence.now a.slots.now a.line.now c.parse-call.result c.parse-call.ensures.result_value c.parse-call.ensures.placed c.in-Find.slot c.in-Find.page c.in-Find.is, c.requires)

pub slice_bounds-fetch-count : goal.slice_bounds-fetch-count
slice_bounds-fetch-count c = let a = c.args in let h = fetch_pages a.volumes.now a.commits.now a.checkpoints.now a.index.now a.presence.now a.slots.now a.line.now c.parse-call.result c.parse-call.ensures.result_value c.parse-call.ensures.placed c.in-Fetch.log c.in-Fetch.lsn c.in-Fetch.count c.in-Fetch.sid c.in-Fetch.from c.in-Fetch.to c.in-Fetch.is in omega (arith, h.0)

pub fetch-requires : goal.fetch-requires
fetch-requires c = let a = c.args in (fetch_pages a.volumes.now a.commits.now a.checkpoints.now a.index.now a.presence.now a.slots.now a.line.now c.parse-call.result c.parse-call.ensures.result_value c.parse-call.ensures.placed c.in-Fetch.log c.in-Fetch.lsn c.in-Fetch.count c.in-Fetch.sid c.in-Fetch.from c.in-Fetch.to c.in-Fetch.is).2

pub returns-in-Malformed : goal.returns-in-Malformed
returns-in-Malformed c = let a = c.args in refuses a.volumes.now a.commits.now a.checkpoints.now a.index.now a.presence.now a.slots.now a.line.now c.parse-call.result c.parse-call.ensures.result_value c.parse-call.ensures.placed c.in-Malformed.is c.coded.result c.coded.ensures

pub returns-in-Open : goal.returns-in-Open
returns-in-Open c = let a = c.args in opens a.volumes.now a.commits.now a.checkpoints.now a.index.now a.presence.now a.slots.now a.line.now c.parse-call.result c.parse-call.ensures.result_value c.parse-call.ensures.placed c.in-Open.vid c.in-Open.local c.in-Open.remote c.in-Open.is c.coded-in-Open.result c.«open».result c.coded-in-Open.ensures c.«open».ensures.value _ c.«open».ensures.volumes_after

pub returns-in-Snap : goal.returns-in-Snap
returns-in-Snap c = let a = c.args in snaps a.volumes.now a.commits.now a.checkpoints.now a.index.now a.presence.now a.slots.now a.line.now c.parse-call.result c.parse-call.ensures.result_value c.parse-call.ensures.placed c.in-Snap.vid c.in-Snap.slot c.in-Snap.is c.snap.result c.snap.ensures.result_value _ c.snap.ensures.slots_after

pub returns-in-Save : goal.returns-in-Save
returns-in-Save c = let a = c.args in saves a.volumes.now a.commits.now a.checkpoints.now a.index.now a.presence.now a.slots.now a.line.now c.parse-call.result c.parse-call.ensures.result_value c.parse-call.ensures.placed c.in-Save.vid c.in-Save.slot c.in-Save.count c.in-Save.sid c.in-Save.from c.in-Save.to c.in-Save.is c.save.result _ c.save.ensures

pub returns-in-Find : goal.returns-in-Find
returns-in-Find c = let a = c.args in finds a.volumes.now a.commits.now a.checkpoints.now a.index.now a.presence.now a.slots.now a.line.now c.parse-call.result c.parse-call.ensures.result_value c.parse-call.ensures.placed c.in-Find.slot c.in-Find.page c.in-Find.is c.find.result c.find.ensures

pub returns-in-Fetch : goal.returns-in-Fetch
returns-in-Fetch c = let a = c.args in fetches a.volumes.now a.commits.now a.checkpoints.now a.index.now a.presence.now a.slots.now a.line.now c.parse-call.result c.parse-call.ensures.result_value c.parse-call.ensures.placed c.in-Fetch.log c.in-Fetch.lsn c.in-Fetch.count c.in-Fetch.sid c.in-Fetch.from c.in-Fetch.to c.in-Fetch.is c.coded-in-Fetch.result c.fetch.result c.coded-in-Fetch.ensures _ _ _ c.fetch.ensures

pub returns-in-Pull : goal.returns-in-Pull
returns-in-Pull c = let a = c.args in pulls a.volumes.now a.commits.now a.checkpoints.now a.index.now a.presence.now a.slots.now a.line.now c.parse-call.result c.parse-call.ensures.result_value c.parse-call.ensures.placed c.in-Pull.vid c.in-Pull.is c.coded-in-Pull.result c.pull.result c.coded-in-Pull.ensures c.pull.ensures.value _ c.pull.ensures.volumes_after
