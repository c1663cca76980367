-- 20, 1 and the place, then whether the commit is stored, and then its log up to it, without the ranges of the new local log.
use Rattle.std.proofs.Common.{length, sym, ap, ◌∙◌}
use Rattle.rules.specs.Lists.{all}
use Rattle.paths.specs.Left.{other_log}
use Rattle.copycalls.specs.Making.{ids, logref_on}
use Rattle.commits.proofs.LookLaws.{place_at_lem, place_missing}
use Rattle.copycalls.proofs.Asks.{formed}
use Rattle.copycalls.proofs.Ends.{left_alone, left_nothing, leaves_same, others_only, ref_not_formed, zero_ref, ref_place, not_stored, ref_goes}
use Rattle.copycalls.proofs.from_logref.Goals as goal

pub returns-then-not-tables_formed : goal.returns-then-not-tables_formed
returns-then-not-tables_formed c = left_alone c.args.volumes.now c.args.commits.now c.args.checkpoints.now c.args.index.now c.args.out.now (logref_on c.args.volumes.now c.args.commits.now c.args.checkpoints.now c.args.index.now c.args.log c.args.lsn (ids c.args.vid c.args.local c.args.remote) (length c.args.out.now)) 20 (ref_not_formed c.args.volumes.now c.args.commits.now c.args.checkpoints.now c.args.index.now c.args.log c.args.lsn (ids c.args.vid c.args.local c.args.remote) (length c.args.out.now) (sym (c.if-not-tables_formed.true) ∙ c.tables_formed.ensures))

pub returns-then-lsn-eq0 : goal.returns-then-lsn-eq0
returns-then-lsn-eq0 c = left_alone c.args.volumes.now c.args.commits.now c.args.checkpoints.now c.args.index.now c.args.out.now (logref_on c.args.volumes.now c.args.commits.now c.args.checkpoints.now c.args.index.now c.args.log c.args.lsn (ids c.args.vid c.args.local c.args.remote) (length c.args.out.now)) 1 (zero_ref c.args.volumes.now c.args.commits.now c.args.checkpoints.now c.args.index.now c.args.log c.args.lsn (ids c.args.vid c.args.local c.args.remote) (length c.args.out.now) (sym (c.if-not-tables_formed.false) ∙ c.tables_formed.ensures) c.if-lsn-eq0.true)

pub returns-then-out-ne-VOLUME : goal.returns-then-out-ne-VOLUME
returns-then-out-ne-VOLUME c = left_alone c.args.volumes.now c.args.commits.now c.args.checkpoints.now c.args.index.now c.args.out.now (logref_on c.args.volumes.now c.args.commits.now c.args.checkpoints.now c.args.index.now c.args.log c.args.lsn (ids c.args.vid c.args.local c.args.remote) (length c.args.out.now)) 3 (ref_place c.args.volumes.now c.args.commits.now c.args.checkpoints.now c.args.index.now c.args.log c.args.lsn (ids c.args.vid c.args.local c.args.remote) (length c.args.out.now) (sym (c.if-not-tables_formed.false) ∙ c.tables_formed.ensures) c.if-lsn-eq0.false c.if-out-ne-VOLUME.true)

pub find_commit-requires : goal.find_commit-requires
find_commit-requires c = (formed c.args.volumes.now c.args.commits.now c.args.checkpoints.now c.args.index.now (sym (c.if-not-tables_formed.false) ∙ c.tables_formed.ensures)).1

pub returns-in_default : goal.returns-in_default
returns-in_default c = left_nothing c.args.volumes.now c.args.commits.now c.args.checkpoints.now c.args.index.now c.args.out.now (logref_on c.args.volumes.now c.args.commits.now c.args.checkpoints.now c.args.index.now c.args.log c.args.lsn (ids c.args.vid c.args.local c.args.remote) (length c.args.out.now)) (not_stored c.args.volumes.now c.args.commits.now c.args.checkpoints.now c.args.index.now c.args.log c.args.lsn (ids c.args.vid c.args.local c.args.remote) (length c.args.out.now) (sym (c.if-not-tables_formed.false) ∙ c.tables_formed.ensures) c.if-lsn-eq0.false c.if-out-ne-VOLUME.false (place_missing c.args.commits.now _ _ c.find_commit.ensures c.in_default.is)) (formed c.args.volumes.now c.args.commits.now c.args.checkpoints.now c.args.index.now (sym (c.if-not-tables_formed.false) ∙ c.tables_formed.ensures)) (λ j. (c.slice_known-1.given j).fits) (λ j. (c.slice_known-2-1.given j).fits) (λ j. (c.slice_known-3-1.given j).fits) (λ j. (c.slice_known-4-1.given j).fits)

pub copy_path-requires : goal.copy_path-requires
copy_path-requires c = record { volumes_value = formed c.args.volumes.now c.args.commits.now c.args.checkpoints.now c.args.index.now (sym (c.if-not-tables_formed.false) ∙ c.tables_formed.ensures); is_left = (c.log_path-left.ensures.0, ap (all (other_log c.args.local)) c.log_path-left.ensures.1 ∙ others_only c.args.local _, c.if-out-ne-VOLUME.false) }

pub returns : goal.returns
returns c = leaves_same c.args.volumes.now c.args.commits.now c.args.checkpoints.now c.args.index.now c.args.out.now _ (logref_on c.args.volumes.now c.args.commits.now c.args.checkpoints.now c.args.index.now c.args.log c.args.lsn (ids c.args.vid c.args.local c.args.remote) (length c.args.out.now)) (ref_goes c.args.volumes.now c.args.commits.now c.args.checkpoints.now c.args.index.now c.args.log c.args.lsn (ids c.args.vid c.args.local c.args.remote) (length c.args.out.now) (sym (c.if-not-tables_formed.false) ∙ c.tables_formed.ensures) c.if-lsn-eq0.false c.if-out-ne-VOLUME.false _ (place_at_lem c.args.commits.now _ _ c.find_commit.ensures _ c.in-Some.is).0 _ c.log_path-left.ensures.1) _ _ _ _ _ _ c.copy_path.ensures
