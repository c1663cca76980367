-- As many as the count says, and at most 16. Assumes nothing.
use Rattle.segmentbytes.proofs.DomainLaws.{frames_number}
use Rattle.segmentbytes.proofs.frames.frames_count.Goals as goal

pub returns : goal.returns
returns c =
    frames_number c.args.s.now c.args.at c.requires _ c.count_read.ensures
