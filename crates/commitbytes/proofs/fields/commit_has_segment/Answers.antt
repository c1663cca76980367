-- The flag of the segment says so. Assumes nothing.
use Rattle.std.proofs.Common.{sym, ap, ◌∙◌}
use Rattle.rules.specs.Records.{Commit}
use Rattle.layout.specs.Values.{window_bytes, set_bytes, frame_bytes, frames_bytes, segment_bytes}
use Rattle.commitbytes.specs.Laid.{presence}
use Rattle.commitbytes.proofs.PartLaws.{flag_says}
use Rattle.commitbytes.proofs.CommitLaws.{commit_at_lem}
use Rattle.commitbytes.proofs.fields.commit_has_segment.Goals as goal

pub returns : goal.returns
unfolding frame_bytes frames_bytes segment_bytes set_bytes window_bytes
returns c =
    let a = c.args in
    c.flag_read.ensures ∙ flag_says segment_bytes a.s.now _ ∙ sym (ap (λ (c : Commit). presence c.segment) (commit_at_lem a.s.now a.at))
