-- The volume that is found, the latest check, the LSN, the segment: the first that fails gives the number.
use Rattle.std.proofs.Common.{sym, ap, ◌∙◌, arith}
use Rattle.basics.specs.Says.{lsn_says}
use Rattle.table.proofs.Ends.{at_in}
use Rattle.layout.specs.Tables.{volumes_in, commits_in, presence_in}
use Rattle.volume.specs.Volumes.{volume_says}
use Rattle.volume.specs.Snapshots.{snapshot_says}
use Rattle.volumecalls.proofs.Ends.{here, nowhere}
use Rattle.savecalls.proofs.Plans.{found_says_lem, says_no, no_volume, not_latest, no_lsn, used, unused}
use Rattle.savecalls.proofs.save_plan.Goals as goal

pub returns-in_default : goal.returns-in_default
returns-in_default c =
    let a = c.args in
    says_no c.no_plan.result 4 c.no_plan.ensures (omega arith) ∙ no_volume (volumes_in a.volumes.now) (commits_in a.commits.now) (presence_in a.presence.now) a.vid (snapshot_says a.s) a.sid (nowhere a.volumes.now a.vid c.requires.0 _ _ c.find_volume.ensures.says c.in_default.is)

pub volume_at-volume-requires : goal.volume_at-volume-requires
volume_at-volume-requires c = (c.requires.0, at_in 117 17 c.args.volumes.now _ _ _ c.find_volume.ensures.place c.in-Ok.is)

pub returns-then-not-is_latest : goal.returns-then-not-is_latest
returns-then-not-is_latest c =
    let a = c.args in
    says_no c.no_plan-then-not-is_latest.result 7 c.no_plan-then-not-is_latest.ensures (omega arith) ∙ not_latest (volumes_in a.volumes.now) (commits_in a.commits.now) (presence_in a.presence.now) a.vid (snapshot_says a.s) a.sid (volume_says c.volume_at-volume.result) (found_says_lem a.volumes.now a.vid c.in-Ok.i c.volume_at-volume.result (here a.volumes.now a.vid c.requires.0 _ _ c.find_volume.ensures.says c.in-Ok.is) c.volume_at-volume.ensures) (sym (c.if-not-is_latest.true) ∙ c.is_latest.ensures)

pub returns-in_default-next_lsn : goal.returns-in_default-next_lsn
returns-in_default-next_lsn c =
    let a = c.args in
    says_no c.no_plan-in_default-next_lsn.result 18 c.no_plan-in_default-next_lsn.ensures (omega arith) ∙ no_lsn (volumes_in a.volumes.now) (commits_in a.commits.now) (presence_in a.presence.now) a.vid (snapshot_says a.s) a.sid (volume_says c.volume_at-volume.result) (found_says_lem a.volumes.now a.vid c.in-Ok.i c.volume_at-volume.result (here a.volumes.now a.vid c.requires.0 _ _ c.find_volume.ensures.says c.in-Ok.is) c.volume_at-volume.ensures) (sym (c.if-not-is_latest.false) ∙ c.is_latest.ensures) _ (ap lsn_says (sym c.in_default-next_lsn.is) ∙ c.next_lsn.ensures)

pub returns-then-in_use : goal.returns-then-in_use
returns-then-in_use c =
    let a = c.args in
    says_no c.no_plan-then-in_use.result 5 c.no_plan-then-in_use.ensures (omega arith) ∙ used (volumes_in a.volumes.now) (commits_in a.commits.now) (presence_in a.presence.now) a.vid (snapshot_says a.s) a.sid (volume_says c.volume_at-volume.result) (found_says_lem a.volumes.now a.vid c.in-Ok.i c.volume_at-volume.result (here a.volumes.now a.vid c.requires.0 _ _ c.find_volume.ensures.says c.in-Ok.is) c.volume_at-volume.ensures) (sym (c.if-not-is_latest.false) ∙ c.is_latest.ensures) c.in-Ok-next_lsn.lsn.0 (ap lsn_says (sym c.in-Ok-next_lsn.is) ∙ c.next_lsn.ensures) (sym c.if-in_use.true ∙ c.in_use.ensures)

pub returns : goal.returns
returns c =
    let a = c.args in
    unused (volumes_in a.volumes.now) (commits_in a.commits.now) (presence_in a.presence.now) a.vid (snapshot_says a.s) a.sid (volume_says c.volume_at-volume.result) (found_says_lem a.volumes.now a.vid c.in-Ok.i c.volume_at-volume.result (here a.volumes.now a.vid c.requires.0 _ _ c.find_volume.ensures.says c.in-Ok.is) c.volume_at-volume.ensures) (sym (c.if-not-is_latest.false) ∙ c.is_latest.ensures) c.in-Ok-next_lsn.lsn.0 (ap lsn_says (sym c.in-Ok-next_lsn.is) ∙ c.next_lsn.ensures) (sym c.if-in_use.false ∙ c.in_use.ensures)
