-- What each answer of the calls says: document 01's number, or the value under 0.
use Rattle.std.specs.Prelude.{ℕ, Bool, Option as Maybe, Result, Ok, Err}
use Rattle.std.proofs.Math.Option.{Option}
use Rattle.basics.specs.Answers.{Answer, refused, done}
use Rattle.basics.specs.Refusals.{number_of}
use Rattle.basics.specs.Says.{maybe_page_says}
use Rattle.basics.specs.declared.page_count.PageCount.{PageCount}
use Rattle.basics.specs.declared.pageidx.PageIdx.{PageIdx}
use Rattle.basics.specs.declared.refusal.Refusal.{Refusal}
use Rattle.pageset.specs.declared.SetAnswer.{SetAnswer}
use Rattle.pagecalls.specs.declared.InsertAnswer.{InsertAnswer}

-- the set of an insertion's answer, with its number
abbrev pub inserted : InsertAnswer → SetAnswer
inserted r = record { code = r.code; set = r.set }

-- a number of pages
abbrev pub count_says : Result PageCount Refusal → Answer ℕ
count_says (Err r) = refused (number_of r)
count_says (Ok n) = done n.0

-- a page, or nothing
abbrev pub page_says : Result (Maybe PageIdx) Refusal → Answer (Option ℕ)
page_says (Err r) = refused (number_of r)
page_says (Ok p) = done (maybe_page_says p)

-- yes or no
abbrev pub yes_says : Result Bool Refusal → Answer Bool
yes_says (Err r) = refused (number_of r)
yes_says (Ok b) = done b
