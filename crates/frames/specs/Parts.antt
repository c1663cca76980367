-- A list of frames by value, and the parts that it says.
use Rattle.std.specs.Prelude.{◌≡◌, ◌-◌, List, [], ◌∷◌, length, take, drop, replicate, Result, Ok, Err}
use Rattle.basics.specs.Answers.{Answer, refused, done}
use Rattle.basics.specs.Refusals.{number_of}
use Rattle.basics.specs.declared.refusal.Refusal.{Refusal}
use Rattle.rules.specs.Frames.{Part}
use Rattle.commit.specs.declared.SegmentRange.{SegmentRange}
use Rattle.commit.specs.Says.{zero_range, IsRange}
use Rattle.frames.specs.declared.FrameList.{FrameList}

-- as many ranges as parts, and each says its part
unfoldable pub AreRanges : List Part → List SegmentRange → Type 0
AreRanges [] [] = Unit {0}
AreRanges [] (r ∷ rs) = ⊥
AreRanges (f ∷ fs) [] = ⊥
AreRanges (f ∷ fs) (r ∷ rs) = IsRange f r × AreRanges fs rs

-- sixteen places: the parts, and zeros past them
pub record Filled (fs : List Part) (places : List SegmentRange) : Type 0 where
  pub parts : AreRanges fs (take (length fs) places)
  pub rest : drop (length fs) places ≡ replicate (16 - length fs) zero_range

-- the answer is the number, or these parts
abbrev pub Lists : Result FrameList Refusal → Answer (List Part) → Type 0
Lists (Err r) (refused n) = number_of r ≡ n
Lists (Err r) (done fs) = ⊥
Lists (Ok l) (refused n) = ⊥
Lists (Ok l) (done fs) = (l.len ≡ length fs) × Filled fs l.frames
