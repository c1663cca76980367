-- What an answer holds, or zeros where it holds nothing.
use Rattle.std.specs.Prelude.{replicate, Option as Maybe, Some, None, Result, Ok, Err}
use Rattle.basics.specs.declared.refusal.Refusal.{Refusal}
use Rattle.commit.specs.declared.SegmentRange.{SegmentRange}
use Rattle.commit.specs.Says.{zero_range}
use Rattle.frames.specs.declared.FrameList.{FrameList}

-- the range that an answer holds, or one of zeros
abbrev pub range_or_zero : Result (Maybe SegmentRange) Refusal → SegmentRange
range_or_zero (Ok (Some r)) = r
range_or_zero (Ok None) = zero_range
range_or_zero (Err n) = zero_range

-- the frame list of an answer, or one of no frame
abbrev pub list_or_none : Result FrameList Refusal → FrameList
list_or_none (Ok l) = l
list_or_none (Err n) = record { len = 0; frames = replicate 16 zero_range }
