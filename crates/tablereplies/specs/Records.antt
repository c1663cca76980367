-- What an answer says whose refusal any number may tell, and what a call leaves whose answer is a volume: its reply, and what is lent for the answer.
use Rattle.std.specs.Prelude.{ℕ, Bool, cond, List, ◌==◌, Option as Maybe, Some, None, Result, Ok, Err}
use Rattle.std.proofs.Math.Option.{Option, none, some}
use Rattle.basics.specs.Answers.{Answer, refused, done, code}
use Rattle.basics.specs.declared.page_count.PageCount.{PageCount}
use Rattle.rules.specs.Records.{Volume}
use Rattle.layout.specs.Records.{volume_bytes}
use Rattle.layout.specs.Lent.{lent}
use Rattle.arguments.specs.declared.Reply.{Reply}
use Rattle.arguments.specs.Replies.{none_under, value, placed}

-- what an answer says: the number of its refusal, or its value under 0
abbrev pub says_by : {R A B : Type 0} → (R → ℕ) → (A → B) → Result A R → Answer B
says_by number says (Err r) = refused (number r)
says_by number says (Ok a) = done (says a)

-- a page count, or nothing
abbrev pub counted : Maybe PageCount → Option ℕ
counted (Some n) = some n.0
counted None = none

-- a volume's bytes in what is lent for them
abbrev pub volume_left : List ℕ → Bool → Answer Volume → Reply × List ℕ
volume_left was ok rule = value volume_bytes.spell was (lent ok (placed 117 was rule))

-- ---- an answer by value, as it is put

-- 20, then the lent place, then the volume or its number
unfoldable pub volume_put : List ℕ → Answer Volume → Reply × List ℕ
volume_put was a = cond (code a == 20) (none_under 20, was) (value volume_bytes.spell was (placed 117 was a))
