-- Both round trips of a value at a place of lent bytes, for every form: what was written is read again, and what was read is written as it stood. `says` gives the
-- record of the rules that a value by value says, `laid` the value that lays it out.
use Rattle.std.proofs.Common.{◌≡◌, ℕ, ◌+◌, ◌≤◌, Bool, true, List, length, ap, ◌∙◌, arith}
use Rattle.octets.specs.Bytes.{part, put}
use Rattle.octets.proofs.Places as P
use Rattle.layout.specs.Codecs.{Codec, in_form, Holds}
use Rattle.layout.proofs.HoldLaws.{in_form_lem}

module _ {A B : Type 0} (c : Codec A) (says : B → A) (laid : A → B) (s : List ℕ) (at : ℕ) (h : at + c.size ≤ length s) where
  -- read after write
  pub read_again : (x : B) → Holds c (says x) → laid (says x) ≡ x → laid (c.read (part at c.size (put at (c.spell (says x)) s))) ≡ x
  read_again x k e = ap (λ (b : List ℕ). laid (c.read b)) (P.part_put_same at c.size (c.spell (says x)) s k.long h) ∙ ap laid k.back ∙ e

  -- write after read
  pub written_again : (form : A → Bool) → in_form c form (part at c.size s) ≡ true → says (laid (c.read (part at c.size s))) ≡ c.read (part at c.size s)
      → put at (c.spell (says (laid (c.read (part at c.size s))))) s ≡ s
  written_again form f e =
      ap (λ (x : A). put at (c.spell x) s) e ∙ ap (λ (b : List ℕ). put at b s) (in_form_lem c form (part at c.size s) f).0 ∙ P.put_part at c.size s h
