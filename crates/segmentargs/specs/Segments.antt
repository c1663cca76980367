-- A segment or a range of one in bytes as an argument, and a range as an answer.
use Rattle.std.specs.Prelude.{ℕ, Bool, cond, ◌&&◌, List, length, replicate, ◌==◌, nat_le}
use Rattle.std.proofs.Math.Option.{Option}
use Rattle.basics.specs.Answers.{Answer, code, done, ask, ◌>>=◌, ◌>>◌}
use Rattle.pageset.specs.Sets.{normal}
use Rattle.rules.specs.Forms.{segment_form}
use Rattle.rules.specs.Frames.{Part, touching, joined_part}
use Rattle.commit.specs.declared.SegmentIdx.{SegmentIdx}
use Rattle.commit.specs.declared.SegmentRange.{SegmentRange}
use Rattle.commit.specs.Builders.{zero_frames}
use Rattle.commit.specs.Says.{range_says}
use Rattle.layout.specs.Codecs.{in_form}
use Rattle.layout.specs.Values.{segment_bytes, part_bytes}
use Rattle.segmentbytes.specs.Laid.{segment_laid, part_form}
use Rattle.setbytes.specs.Laid.{set_laid}
use Rattle.arguments.specs.declared.Reply.{Reply}
use Rattle.arguments.specs.Args.{argument, not_aset}
use Rattle.arguments.specs.Replies.{none_under, value_or}
use Rattle.layout.specs.Lent.{sized}
use Rattle.arguments.specs.Sets.{early}

-- a segment that is not in form: its set is not
unfoldable pub not_asegment : SegmentIdx
not_asegment = record { sid = replicate 16 0; pages = not_aset; len = 0; frames = zero_frames }

-- a segment in bytes
abbrev pub segment_arg : List ℕ → SegmentIdx
segment_arg b = argument segment_bytes segment_form segment_laid not_asegment b

-- a range of no bytes whose set is not in form
unfoldable pub not_arange : SegmentRange
not_arange = record { sid = replicate 16 0; start = 0; end = 0; pages = not_aset }

-- bytes of a range's size: what they spell, with a set that is not in form where theirs is not
abbrev pub range_in : Bool → Part → SegmentRange
range_in formed p = record { sid = p.sid; start = p.start; end = p.end; pages = cond formed (set_laid p.pages) not_aset }

-- a range in bytes; of another length nothing is looked at
unfoldable pub range_arg : List ℕ → SegmentRange
range_arg b = cond (length b == part_bytes.size) (range_in (in_form part_bytes part_form b) (part_bytes.read b)) not_arange

-- a range's bytes or nothing, in what is lent for them
abbrev pub range_bytes : List ℕ → Answer (Option Part) → Reply × List ℕ
range_bytes was q = value_or part_bytes.spell was q

-- after the rule's own numbers
abbrev pub range_left : List ℕ → Answer (Option Part) → Reply × List ℕ
range_left was q = range_bytes was (sized part_bytes.size was q)

-- two ranges to be joined: 2, 3, and the range that they make, or none where they do not touch
unfoldable pub touch_rule : SegmentRange → SegmentRange → Answer (Option Part)
touch_rule a b = do
  ask (nat_le a.start a.end && nat_le b.start b.end) 2
  ask (normal a.pages && normal b.pages) 3
  done (touching (range_says a) (range_says b))

-- and after them what is lent, and then 22
abbrev pub join_left : List ℕ → SegmentRange → SegmentRange → Reply × List ℕ
join_left was a b = range_bytes was (sized part_bytes.size was (touch_rule a b) >>= joined_part)

-- an answer by value, as it is put: 1, 2 and 3, then the lent slice, then 22, nothing or the range
unfoldable pub range_put : List ℕ → Answer (Option Part) → Reply × List ℕ
range_put was q =
    cond (early (code q)) (none_under (code q), was)
    (cond (length was == 417) (range_bytes was q) (none_under 3, was))
