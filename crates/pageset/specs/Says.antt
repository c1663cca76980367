-- What an answer that is a set says: document 01's number, or the set of the pages that pass a test.
use Rattle.std.specs.Prelude.{◌≡◌, ℕ, Bool, true, ◌⊎◌, replicate}
use Rattle.basics.specs.Answers.{Answer, refused, done}
use Rattle.pageset.specs.declared.PageSet.{PageSet}
use Rattle.pageset.specs.declared.SetAnswer.{SetAnswer}
use Rattle.pageset.specs.declared.CutAnswer.{CutAnswer}
use Rattle.pageset.specs.Sets.{member, normal, zero_window}

-- the empty set
abbrev pub empty_set : PageSet
empty_set = record { len = 0; windows = replicate 32 zero_window }

-- a refusal's number; its value is the empty set
abbrev pub refused_set : ℕ → SetAnswer
refused_set n = record { code = n; set = empty_set }

-- s is the set in normal form of just the pages that pass the test
pub record IsSet (f : ℕ → Bool) (s : PageSet) : Type 0 where
  pub normal : normal s ≡ true
  pub pages : (p : ℕ) → member s p ≡ f p

-- the answer is the number, or the set of just the pages that pass the test
abbrev pub Gives : SetAnswer → Answer (ℕ → Bool) → Type 0
Gives r (refused n) = r ≡ refused_set n
Gives r (done f) = (r.code ≡ 0) × IsSet f r.set

-- no set of at most 32 windows has just the pages that pass the test
abbrev pub Over32 : (ℕ → Bool) → Type 0
Over32 f = (s : PageSet) → IsSet f s → ⊥

-- the same, and 22 where the pages need over 32 windows
abbrev pub GivesOr22 : SetAnswer → Answer (ℕ → Bool) → Type 0
GivesOr22 r (refused n) = r ≡ refused_set n
GivesOr22 r (done f) = Gives r (done f) ⊎ ((r ≡ refused_set 22) × Over32 f)

-- the two sets of a cut's answer, each with its number
abbrev pub common : CutAnswer → SetAnswer
common r = record { code = r.code; set = r.common }

abbrev pub left : CutAnswer → SetAnswer
left r = record { code = r.code; set = r.left }
