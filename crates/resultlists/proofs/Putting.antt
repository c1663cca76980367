-- A loop that puts one entry after another: those that are put and those that are left are all of them, and the lent bytes hold those that are put. Of any byte form.
use Rattle.std.proofs.Common.{◌≡◌, ℕ, ◌+◌, ◌*◌, ◌/◌, ◌≤◌, List, [], ◌∷◌, ◌++◌, length, sym, refl, ap, ◌∙◌, subst, append_assoc, append-nil, arith, length-append}
use Rattle.octets.specs.Bytes.{put}
use Rattle.octets.specs.Flat.{flat}
use Rattle.octets.proofs.Places.{length_put}
use Rattle.layout.specs.Codecs.{Codec}
use Rattle.resultlists.proofs.EntryLaws.{Listed, none_listed, one_listed, slots_room}

module _ {A : Type 0} (c : Codec A) (s : ℕ) (was : List ℕ) (all : List A) where
  -- n are put, the rest is left
  pub record Putting (n : ℕ) (t : List ℕ) (rest : List A) : Type 0 where
    pub front : List A
    pub whole : front ++ rest ≡ all
    pub number : n ≡ length front
    pub listed : Listed c s was front t

  -- none is put
  pub put_start : Putting 0 was all
  put_start = record { front = []; whole = refl; number = refl; listed = none_listed c s was }

  module _ (n : ℕ) (t : List ℕ) (x : A) (rest : List A) (p : Putting n t (x ∷ rest)) where
    pub put_few : n + 1 + length rest ≤ length all
    put_few = omega (arith, length-append p.front (x ∷ rest), ap length p.whole, p.number)

    module _ (room : length all ≤ length was / s) where
      -- the next fits
      pub put_room : (n + 1) * s ≤ length was
      put_room = slots_room s (n + 1) was (omega (arith, put_few))

      -- and is put
      pub put_next : (u : List ℕ) → length (c.spell x) ≡ s → u ≡ put (n * s) (c.spell x) t → Putting (n + 1) u rest
      put_next u long e =
          let k = p.number in
          record {
            front = p.front ++ (x ∷ []);
            whole = append_assoc p.front (x ∷ []) rest ∙ p.whole;
            number = omega (arith, length-append p.front (x ∷ []));
            listed =
                one_listed c s was p.front x t u p.listed long (subst (λ (m : ℕ). (m + 1) * s ≤ length was) k put_room) (e ∙ ap (λ (m : ℕ). put (m * s) (c.spell x) t) k);
          }

  module _ (n : ℕ) (t : List ℕ) (rest : List A) (p : Putting n t rest) where
    -- the lent bytes keep their number
    pub put_length : length all ≤ length was / s → length t ≡ length was
    put_length room =
        let f : length p.front ≤ length all = omega (arith, length-append p.front rest, ap length p.whole) in
        let r = slots_room s (length p.front) was (omega arith) in
        let g = p.listed.long in
        ap length p.listed.bytes ∙ length_put 0 (flat c.spell p.front) was (omega arith)

    -- none is left
    module _ (e : rest ≡ []) where
      ended : p.front ≡ all
      ended = sym (append-nil p.front) ∙ ap (λ (r : List A). p.front ++ r) (sym e) ∙ p.whole

      pub put_number : n ≡ length all
      put_number = p.number ∙ ap length ended

      pub put_all : t ≡ put 0 (flat c.spell all) was
      put_all = p.listed.bytes ∙ ap (λ (l : List A). put 0 (flat c.spell l) was) ended
