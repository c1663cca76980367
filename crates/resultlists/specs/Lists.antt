-- A lent result list: entries of one byte form, one after another from its start on, and their number. What lies past the last entry stays; a refusal leaves the list and the number as found.
use Rattle.std.specs.Prelude.{ℕ, ◌/◌, List, length, nat_le}
use Rattle.octets.specs.Bytes.{put}
use Rattle.octets.specs.Flat.{flat}
use Rattle.basics.specs.Answers.{Answer, done, ask, ◌>>=◌, ◌>>◌}
use Rattle.layout.specs.Codecs.{Codec}
use Rattle.arguments.specs.declared.Reply.{Reply}
use Rattle.arguments.specs.Replies.{value}

module _ {A : Type 0} (c : Codec A) where
  -- the whole entries that fit into a lent list
  abbrev pub slots_in : List ℕ → ℕ
  slots_in was = length was / c.size

  -- a list that is too short is 19, after the numbers of a rule that has no list
  abbrev pub roomed : List ℕ → Answer (List A) → Answer (List A)
  roomed was q = q >>= λ l. (ask (nat_le (length l) (slots_in was)) 19 >> done l)

  -- the reply, the lent list and the number of its items afterwards
  abbrev pub list_left : List ℕ → ℕ → Answer (List A) → Reply × (List ℕ × ℕ)
  list_left was items q = value (λ l. (put 0 (flat c.spell l) was, length l)) (was, items) q
