-- What each answer of the calls says: document 01's number, or the value under 0; and what a call that answers a record leaves in the bytes lent for it.
use Rattle.std.specs.Prelude.{◌≡◌, ℕ, Bool, List, Option as Maybe, Some, None, Result, Ok, Err}
use Rattle.std.proofs.Math.Option.{Option, none, some}
use Rattle.basics.specs.Answers.{Answer, refused, done, ◌>>=◌}
use Rattle.basics.specs.Refusals.{number_of}
use Rattle.basics.specs.declared.page_count.PageCount.{PageCount}
use Rattle.basics.specs.declared.refusal.Refusal.{Refusal}
use Rattle.rules.specs.Lists.{is_some}
use Rattle.layout.specs.Codecs.{Codec}

-- a page count, or nothing
abbrev pub maybe_count_says : Result (Maybe PageCount) Refusal → Answer (Option ℕ)
maybe_count_says (Err r) = refused (number_of r)
maybe_count_says (Ok (Some n)) = done (some n.0)
maybe_count_says (Ok None) = done none

-- whether a record was found
abbrev pub found_says : Result Bool Refusal → Answer Bool
found_says (Err r) = refused (number_of r)
found_says (Ok b) = done b

module _ {R : Type 0} (c : Codec R) where
  -- the bytes lent for a record, after the call: its bytes where it was found, else as they were
  abbrev pub out_after : Answer (Option R) → List ℕ → List ℕ
  out_after (refused n) out = out
  out_after (done none) out = out
  out_after (done (some x)) out = c.spell x

  -- a call that answers a record to lent bytes: whether it was found, and the bytes after
  pub record Answered (answer : Answer (Option R)) (found : Answer Bool) (out after : List ℕ) : Type 0 where
    pub says : found ≡ (do
      o ← answer
      done (is_some o))
    pub bytes : after ≡ out_after answer out
