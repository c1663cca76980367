-- The two numbers stand side by side. Assumes nothing.
use Rattle.std.proofs.Common.{sym, ap, ◌∙◌, ap₂}
use Rattle.commit.specs.declared.Frame.{Frame}
use Rattle.segmentbytes.specs.Laid.{frame_laid}
use Rattle.segmentbytes.proofs.FrameLaws.{frame_at}
use Rattle.segmentbytes.proofs.frames.frame_read.Goals as goal

pub returns : goal.returns
returns c =
    let a = c.args in
    ap₂ {C = Frame} (λ i m. record { size = i; last = record { 0 = m } }) c.load64-size.ensures c.load32.ensures ∙ ap frame_laid (sym (frame_at a.at a.s.now))
