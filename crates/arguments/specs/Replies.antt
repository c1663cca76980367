-- What an exported call leaves: its reply, and what is lent for the answer. An answer is written where the number is 0 and there is one; else what was lent stays as found.
use Rattle.std.specs.Prelude.{ℕ, Bool, true, false, cond, List, length, ◌==◌}
use Rattle.std.proofs.Math.Option.{Option, none, some}
use Rattle.basics.specs.Answers.{Answer, refused, done, ask, ◌>>◌}
use Rattle.arguments.specs.declared.Reply.{Reply}

-- document 01's number, and no answer
abbrev pub none_under : ℕ → Reply
none_under n = record { code = n; found = 0 }

-- an answer under 0
abbrev pub given : Reply
given = record { code = 0; found = 1 }

-- 1 for yes, 0 for no
abbrev pub bit : Bool → ℕ
bit true = 1
bit false = 0

-- the number of a call that answers nothing else: done is 0
abbrev pub numbered_reply : ℕ → Reply
numbered_reply n = cond (n == 0) given (none_under n)

-- yes or no under 0
abbrev pub yes_or_no : Answer Bool → Reply
yes_or_no (refused n) = none_under n
yes_or_no (done b) = record { code = 0; found = bit b }

module _ {A B : Type 0} (f : A → B) (was : B) where
  -- a value: the reply and what was lent
  abbrev pub value : Answer A → Reply × B
  value (refused n) = (none_under n, was)
  value (done a) = (given, f a)

  -- a value or nothing
  abbrev pub value_or : Answer (Option A) → Reply × B
  value_or (refused n) = (none_under n, was)
  value_or (done none) = (none_under 0, was)
  value_or (done (some a)) = (given, f a)

-- the place lent for an answer of n bytes: 3 for another length, before what the rule asks
unfoldable pub placed : {A : Type 0} → ℕ → List ℕ → Answer A → Answer A
placed n was rule = do
  ask (length was == n) 3
  rule
