-- The array holds the frames passed, and zeros past them. Assumes nothing.
use Rattle.std.proofs.Common.{ℕ, ◌+◌, ◌*◌, length, set, ap, ◌∙◌, arith, rules}
use Rattle.octets.specs.Bytes.{part}
use Rattle.octets.proofs.Tabs.{tab_none, tab_more}
use Rattle.commit.specs.declared.Frame.{Frame}
use Rattle.commit.specs.Builders.{zero_frame, zero_frames}
use Rattle.layout.specs.Values.{frame_bytes}
use Rattle.segmentbytes.specs.Laid.{frame_laid}
use Rattle.segmentbytes.proofs.DomainLaws.{frames_made}
use Rattle.segmentbytes.proofs.frames.frames_read.Goals as goal

pub loop-i-init : goal.loop-i-init
loop-i-init c = (ap length c.no_frames-fs.ensures, c.no_frames-fs.ensures ∙ tab_none _ _)

pub frame_read-requires : goal.frame_read-requires
frame_read-requires c = omega (arith, c.count_read-n.ensures)

pub bounds-fs-i : goal.bounds-fs-i
bounds-fs-i c = omega (arith, c.count_read-n.ensures)

pub loop-i-preserved : goal.loop-i-preserved
loop-i-preserved c =
    let a = c.args in
    let l = c.loop-i in
    let f : ℕ → Frame = λ k. frame_laid (frame_bytes.read (part (a.at + 1 + k * 12) 12 a.s.now)) in
    (search rules, ap (λ (w : Frame). set l.fs l.i w) c.frame_read.ensures ∙ tab_more f zero_frames l.fs zero_frame l.i l.invariant.1 (omega (arith, c.count_read-n.ensures)))

pub returns : goal.returns
returns c =
    let l = c.loop-i in
    frames_made c.args.s.now c.args.at c.requires _ c.count_read-n.ensures l.fs l.i l.invariant.1 (omega arith)
