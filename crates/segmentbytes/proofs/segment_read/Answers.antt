-- Each field is read at its place. Assumes nothing.
use Rattle.std.proofs.Common.{sym, ap, ◌∙◌}
use Rattle.commit.specs.declared.SegmentIdx.{SegmentIdx}
use Rattle.segmentbytes.specs.Laid.{segment_laid}
use Rattle.segmentbytes.proofs.SegmentLaws.{segment_at}
use Rattle.segmentbytes.proofs.segment_read.Goals as goal

pub returns : goal.returns
returns c =
    let a = c.args in
    let i = c.load_id-sid.ensures in
    let p = c.set_read-pages.ensures in
    let n = c.frames_count-len.ensures in
    let f = c.frames_read-frames.ensures in
    ◌∙◌ {A = SegmentIdx} (λ j. record { sid = i j; pages = p j; len = n j; frames = f j }) (ap segment_laid (sym (segment_at a.s.now a.at)))
