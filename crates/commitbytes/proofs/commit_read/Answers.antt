-- Each field is read at its place. Assumes nothing.
use Rattle.std.proofs.Common.{length, sym, ap, ◌∙◌}
use Rattle.rules.specs.Records as R
use Rattle.commit.specs.declared.Commit.{Commit}
use Rattle.commitbytes.specs.Laid.{lsns_laid}
use Rattle.commitbytes.proofs.CommitLaws.{commit_at_lem}
use Rattle.commitbytes.proofs.commit_read.Goals as goal

pub returns : goal.returns
returns c =
    let a = c.args in
    let e = sym (ap (λ (c : R.Commit). c.checkpoints) (commit_at_lem a.s.now a.at)) in
    let i = c.commit_log-log.ensures in
    let l = c.commit_lsn-lsn.ensures in
    let n = c.commit_count-count.ensures in
    let p = c.commit_has_hash-has_hash.ensures in
    let h = c.commit_hash-hash.ensures in
    let q = c.commit_has_segment-has_segment.ensures in
    let x = c.commit_segment-segment.ensures in
    let m = c.lsns_number-listed.ensures ∙ ap length e in
    let k = c.lsns_read-checkpoints.ensures ∙ ap lsns_laid e in
    λ j. record { log = i j; lsn = record { 0 = l j }; count = record { 0 = n j }; has_hash = p j; hash = h j; has_segment = q j; segment = x j; listed = m j; checkpoints = k j }
