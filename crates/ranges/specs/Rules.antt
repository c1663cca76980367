-- Joining two ranges by value. What lies past a count is zero, else 3; the rest is document 01's rule on what the ranges say.
use Rattle.std.proofs.Math.Option.{Option}
use Rattle.std.specs.Prelude.{◌&&◌, nat_le}
use Rattle.basics.specs.Answers.{Answer, ask, ◌>>=◌, ◌>>◌}
use Rattle.pageset.specs.Sets.{shown, normal}
use Rattle.rules.specs.Pages.{union}
use Rattle.rules.specs.Frames.{Part, join}
use Rattle.commit.specs.declared.SegmentRange.{SegmentRange}
use Rattle.commit.specs.Says.{range_says}

-- two ranges as one: from the start of the left to the end of the right, with the pages of both
abbrev pub both_of : SegmentRange → SegmentRange → Part
both_of a b = record { sid = a.sid; start = a.start; end = b.end; pages = union (shown a.pages) (shown b.pages) }

-- a range's byte start is at most its end (2), what does not count of its set is zero (3)
unfoldable pub join_rule : SegmentRange → SegmentRange → Answer (Option Part)
join_rule a b = do
  ask (nat_le a.start a.end && nat_le b.start b.end) 2
  ask (normal a.pages && normal b.pages) 3
  join (range_says a) (range_says b)
