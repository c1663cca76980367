-- 20 where a table is not formed; 1, 2 and 3 of the snapshot; 4 where the volume is not found; else whether it is the latest of the one that is.
use Rattle.std.proofs.Common.{true, false, sym, ◌∙◌}
use Rattle.table.proofs.Ends.{at_in}
use Rattle.volumecalls.proofs.Ends.{here, nowhere}
use Rattle.viewcalls.proofs.Ends.{no_volumes, no_commits}
use Rattle.viewcalls.proofs.CheckLaws.{form_len, zero_lsn, start_above, no_form, no_verdict, verdict_found}
use Rattle.viewcalls.proofs.latest_check.Goals as goal

pub returns-then-not-volumes_formed : goal.returns-then-not-volumes_formed
returns-then-not-volumes_formed c = sym (no_volumes c.args.volumes.now c.args.commits.now _ (sym c.volumes_formed.ensures ∙ c.if-not-volumes_formed.true))

pub returns-then-not-commits_formed : goal.returns-then-not-commits_formed
returns-then-not-commits_formed c = sym (no_commits c.args.volumes.now c.args.commits.now _ (sym c.commits_formed.ensures ∙ c.if-not-commits_formed.true))

pub returns-then-not-has_lsns : goal.returns-then-not-has_lsns
returns-then-not-has_lsns c = zero_lsn c.args.volumes.now c.args.commits.now c.args.vid c.args.s (sym c.volumes_formed.ensures ∙ c.if-not-volumes_formed.false) (sym c.commits_formed.ensures ∙ c.if-not-commits_formed.false) (sym c.has_lsns.ensures ∙ c.if-not-has_lsns.true)

pub returns-then-not-is_ordered : goal.returns-then-not-is_ordered
returns-then-not-is_ordered c = start_above c.args.volumes.now c.args.commits.now c.args.vid c.args.s (sym c.volumes_formed.ensures ∙ c.if-not-volumes_formed.false) (sym c.commits_formed.ensures ∙ c.if-not-commits_formed.false) (sym c.has_lsns.ensures ∙ c.if-not-has_lsns.false) (sym c.is_ordered.ensures ∙ c.if-not-is_ordered.true)

pub returns-then-not-is_formed : goal.returns-then-not-is_formed
returns-then-not-is_formed c = no_form c.args.volumes.now c.args.commits.now c.args.vid c.args.s (sym c.volumes_formed.ensures ∙ c.if-not-volumes_formed.false) (sym c.commits_formed.ensures ∙ c.if-not-commits_formed.false) (sym c.has_lsns.ensures ∙ c.if-not-has_lsns.false) (sym c.is_ordered.ensures ∙ c.if-not-is_ordered.false) (sym c.is_formed.ensures ∙ c.if-not-is_formed.true)

pub find_volume-requires : goal.find_volume-requires
find_volume-requires c = (sym c.volumes_formed.ensures ∙ c.if-not-volumes_formed.false)

pub returns-in_default : goal.returns-in_default
returns-in_default c = no_verdict c.args.volumes.now c.args.commits.now c.args.vid c.args.s (sym c.volumes_formed.ensures ∙ c.if-not-volumes_formed.false) (sym c.commits_formed.ensures ∙ c.if-not-commits_formed.false) (sym c.has_lsns.ensures ∙ c.if-not-has_lsns.false) (sym c.is_ordered.ensures ∙ c.if-not-is_ordered.false) (sym c.is_formed.ensures ∙ c.if-not-is_formed.false) (nowhere c.args.volumes.now c.args.vid (sym c.volumes_formed.ensures ∙ c.if-not-volumes_formed.false) _ _ c.find_volume.ensures.says c.in_default.is)

pub volume_at-requires : goal.volume_at-requires
volume_at-requires c = ((sym c.volumes_formed.ensures ∙ c.if-not-volumes_formed.false), at_in 117 17 c.args.volumes.now _ _ _ c.find_volume.ensures.place c.in-Ok.is)

pub is_latest-requires : goal.is_latest-requires
is_latest-requires c = ((sym c.commits_formed.ensures ∙ c.if-not-commits_formed.false), form_len c.args.s (sym c.is_formed.ensures ∙ c.if-not-is_formed.false))

pub returns-then-is_latest : goal.returns-then-is_latest
returns-then-is_latest c = verdict_found c.args.volumes.now c.args.commits.now c.args.vid c.args.s (sym c.volumes_formed.ensures ∙ c.if-not-volumes_formed.false) (sym c.commits_formed.ensures ∙ c.if-not-commits_formed.false) (sym c.has_lsns.ensures ∙ c.if-not-has_lsns.false) (sym c.is_ordered.ensures ∙ c.if-not-is_ordered.false) (sym c.is_formed.ensures ∙ c.if-not-is_formed.false) c.in-Ok.i c.volume_at.result true (here c.args.volumes.now c.args.vid (sym c.volumes_formed.ensures ∙ c.if-not-volumes_formed.false) _ _ c.find_volume.ensures.says c.in-Ok.is) c.volume_at.ensures (sym c.if-is_latest.true ∙ c.is_latest.ensures)

pub returns : goal.returns
returns c = verdict_found c.args.volumes.now c.args.commits.now c.args.vid c.args.s (sym c.volumes_formed.ensures ∙ c.if-not-volumes_formed.false) (sym c.commits_formed.ensures ∙ c.if-not-commits_formed.false) (sym c.has_lsns.ensures ∙ c.if-not-has_lsns.false) (sym c.is_ordered.ensures ∙ c.if-not-is_ordered.false) (sym c.is_formed.ensures ∙ c.if-not-is_formed.false) c.in-Ok.i c.volume_at.result false (here c.args.volumes.now c.args.vid (sym c.volumes_formed.ensures ∙ c.if-not-volumes_formed.false) _ _ c.find_volume.ensures.says c.in-Ok.is) c.volume_at.ensures (sym c.if-is_latest.false ∙ c.is_latest.ensures)
