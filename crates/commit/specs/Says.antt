-- What each record of the code says, as a record of document 01's rules.
use Rattle.std.specs.Prelude.{◌≡◌, Bool, true, List, map, take, replicate, Option as Maybe, Some, None, Result, Ok, Err}
use Rattle.std.proofs.Math.Option.{Option, none, some}
use Rattle.basics.specs.Answers.{Answer, refused, done}
use Rattle.basics.specs.Refusals.{number_of}
use Rattle.basics.specs.declared.lsn.Lsn.{Lsn}
use Rattle.basics.specs.declared.refusal.Refusal.{Refusal}
use Rattle.pageset.specs.Sets.{shown, normal}
use Rattle.pageset.specs.Says.{empty_set}
use Rattle.rules.specs.Records as R
use Rattle.rules.specs.Frames.{Part}
use Rattle.commit.specs.declared.Presence.{Presence}
use Rattle.commit.specs.declared.Presence.TheVariants.{Missing, Given}
use Rattle.commit.specs.declared.Frame.{Frame}
use Rattle.commit.specs.declared.SegmentIdx.{SegmentIdx}
use Rattle.commit.specs.declared.Commit.{Commit}
use Rattle.commit.specs.declared.SegmentRange.{SegmentRange}

-- a frame
abbrev pub frame_says : Frame → R.Frame
frame_says f = record { size = f.size; last = f.last.0 }

-- the frames that count
abbrev pub listed : SegmentIdx → List R.Frame
listed s = map frame_says (take s.len s.frames)

-- a segment
abbrev pub segment_says : SegmentIdx → R.Segment
segment_says s = record { sid = s.sid; pages = shown s.pages; frames = listed s }

-- what may be missing
abbrev pub given_says : {A : Type 0} → Presence → A → Option A
given_says Missing a = none
given_says Given a = some a

-- a commit
abbrev pub commit_says : Commit → R.Commit
commit_says c = record {
  log = c.log;
  lsn = c.lsn.0;
  count = c.count.0;
  hash = given_says c.has_hash c.hash;
  segment = given_says c.has_segment (segment_says c.segment);
  checkpoints = map (λ (n : Lsn). n.0) (take c.listed c.checkpoints);
}

-- ---- answers that are a range or none

-- a range
abbrev pub range_says : SegmentRange → Part
range_says r = record { sid = r.sid; start = r.start; end = r.end; pages = shown r.pages }

-- what stands where there is no range
abbrev pub zero_range : SegmentRange
zero_range = record { sid = replicate 16 0; start = 0; end = 0; pages = empty_set }

-- the range says that, and its set is in normal form
pub record IsRange (f : Part) (r : SegmentRange) : Type 0 where
  pub says : range_says r ≡ f
  pub normal : normal r.pages ≡ true

-- a range or none
abbrev pub maybe_range_says : Maybe SegmentRange → Option Part
maybe_range_says None = none
maybe_range_says (Some x) = some (range_says x)

-- or the number
abbrev pub answer_says : Result (Maybe SegmentRange) Refusal → Answer (Option Part)
answer_says (Err r) = refused (number_of r)
answer_says (Ok x) = done (maybe_range_says x)

-- the set of its range is in normal form
abbrev pub answer_form : Result (Maybe SegmentRange) Refusal → Bool
answer_form (Err r) = true
answer_form (Ok None) = true
answer_form (Ok (Some x)) = normal x.pages

-- the answer says that, and its set is in normal form
pub record Tells (r : Result (Maybe SegmentRange) Refusal) (q : Answer (Option Part)) : Type 0 where
  pub says : answer_says r ≡ q
  pub form : answer_form r ≡ true
