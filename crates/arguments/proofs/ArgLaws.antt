-- An argument in bytes, by the tests that the code makes: its length, and then the form of the whole of it. Assumes nothing.
use Rattle.std.proofs.Common.{◌≡◌, ℕ, Bool, true, false, cond, ◌&&◌, eqb, List, length, sym, ap, ◌∙◌, ap₂, eq-eqb, ne_eqb}
use Rattle.octets.specs.Bytes.{part}
pub use Rattle.octets.proofs.Places.{part_whole as whole}
use Rattle.layout.specs.Codecs.{Codec, in_form}
use Rattle.arguments.specs.Args.{argument}

module _ {A B : Type 0} (c : Codec A) (form : A → Bool) (laid : A → B) (bad : B) (n : ℕ) (size : c.size ≡ n) (b : List ℕ) where
  choice : Bool → Bool → B
  choice t f = cond (t && f) (laid (c.read b)) bad

  -- another length
  pub arg_length : (length b ≡ n → ⊥) → bad ≡ argument c form laid bad b
  unfolding argument choice
  arg_length h = ap (λ (t : Bool). choice t (in_form c form b)) (sym (ap (eqb (length b)) size ∙ ne_eqb (length b) n h))

  module _ (e : length b ≡ n) where
    tested : (f : Bool) → in_form c form (part 0 n b) ≡ f → choice true f ≡ argument c form laid bad b
    unfolding argument choice
    tested f h = ap₂ choice (sym (ap (eqb (length b)) size ∙ eq-eqb (length b) n e)) (sym h ∙ ap (in_form c form) (whole n b e))

    -- not in form
    pub arg_bad : in_form c form (part 0 n b) ≡ false → bad ≡ argument c form laid bad b
    unfolding choice
    arg_bad h = tested false h

    -- in form
    pub arg_good : in_form c form (part 0 n b) ≡ true → laid (c.read (part 0 n b)) ≡ argument c form laid bad b
    unfolding choice
    arg_good h = ap (λ (x : List ℕ). laid (c.read x)) (whole n b e) ∙ tested true h
