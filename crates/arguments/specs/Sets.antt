-- What a call leaves whose answer is a page set: its reply, and the lent bytes. The set's bytes stand there under 0; else what was lent stays as found.
use Rattle.std.specs.Prelude.{◌≡◌, ℕ, Bool, cond, not, ◌&&◌, ◌⊎◌, List, length, ◌==◌}
use Rattle.basics.specs.Answers.{Answer, refused, done}
use Rattle.pageset.specs.declared.PageSet.{PageSet}
use Rattle.pageset.specs.declared.SetAnswer.{SetAnswer}
use Rattle.pageset.specs.declared.CutAnswer.{CutAnswer}
use Rattle.pageset.specs.Sets.{shown}
use Rattle.pageset.specs.Says.{IsSet, Over32}
use Rattle.layout.specs.Values.{set_bytes}
use Rattle.layout.specs.Lent.{sized}
use Rattle.arguments.specs.declared.Reply.{Reply}
use Rattle.arguments.specs.Replies.{none_under}

-- under 0, and whether an answer was found
abbrev pub told : ℕ → Reply
told found = record { code = 0; found = found }

-- the bytes of the set of just the pages that pass the test
pub record AreSet (f : ℕ → Bool) (b : List ℕ) : Type 0 where
  pub set : PageSet
  pub is : IsSet f set
  pub bytes : b ≡ set_bytes.spell (shown set)

-- a set, or the number
abbrev pub SetLeft : ℕ → List ℕ → Answer (ℕ → Bool) → Reply × List ℕ → Type 0
SetLeft found was (refused n) x = x ≡ (none_under n, was)
SetLeft found was (done f) x = (x.0 ≡ told found) × AreSet f x.1

-- a set, or the number, and 22 where the pages need over 32 windows
abbrev pub SetLeftOr22 : ℕ → List ℕ → Answer (ℕ → Bool) → Reply × List ℕ → Type 0
SetLeftOr22 found was (refused n) x = x ≡ (none_under n, was)
SetLeftOr22 found was (done f) x = SetLeft found was (done f) x ⊎ ((x ≡ (none_under 22, was)) × Over32 f)

-- the call's promise, with the lent slice checked in its turn
abbrev pub LeavesSet : ℕ → List ℕ → Answer (ℕ → Bool) → Reply × List ℕ → Type 0
LeavesSet found was q x = SetLeft found was (sized set_bytes.size was q) x

abbrev pub LeavesSetOr22 : ℕ → List ℕ → Answer (ℕ → Bool) → Reply × List ℕ → Type 0
LeavesSetOr22 found was q x = SetLeftOr22 found was (sized set_bytes.size was q) x

-- a cut's promise: the common pages in one slice, those left in the other, both slices checked
abbrev pub LeavesCut : List ℕ → List ℕ → Answer (ℕ → Bool) → Answer (ℕ → Bool) → Reply × (List ℕ × List ℕ) → Type 0
LeavesCut was was' common rest x =
    SetLeft 1 was (sized set_bytes.size was' (sized set_bytes.size was common)) (x.0, x.1.0)
    × SetLeft 1 was' (sized set_bytes.size was' (sized set_bytes.size was rest)) (x.0, x.1.1)

-- ---- an answer by value, as it is put

-- a number that comes before what is lent is looked at: not 22
abbrev pub early : ℕ → Bool
early n = not (n == 0) && not (n == 22)

-- 1, 2 and 3, then the lent slice, then 22 or the set
unfoldable pub set_put : ℕ → List ℕ → SetAnswer → Reply × List ℕ
set_put found was a =
    cond (early a.code) (none_under a.code, was)
    (cond (length was == 385)
    (cond (a.code == 0) (told found, set_bytes.spell (shown a.set)) (none_under a.code, was))
    (none_under 3, was))

-- 3, then both lent slices, then both sets
unfoldable pub cut_put : List ℕ → List ℕ → CutAnswer → Reply × (List ℕ × List ℕ)
cut_put was was' a =
    cond (a.code == 0)
    (cond (length was == 385)
    (cond (length was' == 385) (told 1, (set_bytes.spell (shown a.common), set_bytes.spell (shown a.left))) (none_under 3, (was, was')))
    (none_under 3, (was, was')))
    (none_under a.code, (was, was'))
