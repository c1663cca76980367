-- Where a frame lies, as the code finds it, and the part that this is.
use Rattle.std.specs.Prelude.{ℕ, ◌<◌, ◌≤◌, Option as Maybe, Some, None, Result, Ok, Err}
use Rattle.std.proofs.Math.Option.{Option, none, some}
use Rattle.pageset.specs.Sets.{shown}
use Rattle.rules.specs.Pages.{span}
use Rattle.rules.specs.Frames.{Part}
use Rattle.commit.specs.declared.SegmentIdx.{SegmentIdx}
use Rattle.basics.specs.Answers.{Answer, refused, done}
use Rattle.basics.specs.Refusals.{number_of}
use Rattle.basics.specs.declared.refusal.Refusal.{Refusal}
use Rattle.frames.specs.declared.Run.{Run}

-- the frame that lies there
abbrev pub run_part : SegmentIdx → Run → Part
run_part s r = record { sid = s.sid; start = r.start; end = r.end; pages = span r.first.0 r.last.0 (shown s.pages) }

-- a place, or none
abbrev pub place_says : SegmentIdx → Maybe Run → Option Part
place_says s (Some r) = some (run_part s r)
place_says s None = none

-- a frame does not end before it starts, and does not start at page 0
abbrev pub Placed : Maybe Run → Type 0
Placed (Some r) = (r.start ≤ r.end) × (0 < r.first.0)
Placed None = Unit {0}

-- ---- the bytes of a frame in a lent segment: its start and its end

-- what the answer says
abbrev pub bytes_says : Result (Maybe (ℕ × ℕ)) Refusal → Answer (Option (ℕ × ℕ))
bytes_says (Err r) = refused (number_of r)
bytes_says (Ok None) = done none
bytes_says (Ok (Some r)) = done (some r)

-- they are there
abbrev pub Within : Result (Maybe (ℕ × ℕ)) Refusal → ℕ → Type 0
Within (Err r) lent = Unit {0}
Within (Ok None) lent = Unit {0}
Within (Ok (Some r)) lent = (r.0 ≤ r.1) × (r.1 ≤ lent)
