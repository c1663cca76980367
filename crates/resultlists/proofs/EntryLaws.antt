-- Entries put one after another: each fills its s bytes, so that a list of k entries ends at k * s, and what is put there joins it. Assumes nothing.
use Rattle.std.proofs.Common.{◌≡◌, ℕ, ◌+◌, ◌*◌, ◌/◌, ◌≤◌, List, [], ◌∷◌, ◌++◌, length, sym, ap, ◌∙◌, mul-le-mul_right, add-mul, one-mul, zero-add, zero-mul, div-mul-le_self, arith, length-append}
use Rattle.octets.specs.Bytes.{put}
use Rattle.octets.specs.Flat.{flat}
use Rattle.octets.proofs.Places.{Stored, then_stored, put_none}
pub use Rattle.octets.proofs.Flats.{flat_append, flat_one}
use Rattle.layout.specs.Codecs.{Codec}

-- ---- entries in bytes

module _ {A : Type 0} (e : A → List ℕ) where
  -- each entry fills s bytes
  unfoldable pub Fill : ℕ → List A → Type 0
  Fill s [] = Unit {0}
  Fill s (x ∷ l) = (length (e x) ≡ s) × Fill s l

  pub fill_long : (s : ℕ) (l : List A) → Fill s l → length (flat e l) ≡ length l * s
  unfolding flat Fill
  fill_long s [] f = sym (zero-mul s)
  fill_long s (x ∷ l) f = length-append (e x) (flat e l) ∙ omega (arith, f.0, fill_long s l f.1)

-- ---- a loop that puts entries of s bytes

module _ {A : Type 0} (c : Codec A) (s : ℕ) (was : List ℕ) where
  -- t is what was lent with the entries of l from its start on
  abbrev pub Listed : List A → List ℕ → Type 0
  Listed l t = Stored 0 (length l * s) (flat c.spell l) was t

  pub none_listed : Listed [] was
  unfolding flat
  none_listed = record { long = sym (zero-mul s); bytes = sym (put_none 0 was) }

  -- many more, behind the others
  pub run_listed : (l m : List A) (t u : List ℕ) → Listed l t → length (flat c.spell m) ≡ length m * s → (length l + length m) * s ≤ length was → u ≡ put (length l * s) (flat c.spell m) t
      → Listed (l ++ m) u
  run_listed l m t u w long h p =
      let sum : (length l + length m) * s ≡ length l * s + length m * s = add-mul (length l) (length m) s in
      let v = then_stored w (length m * s) (flat c.spell m) long (omega arith) (p ∙ ap (λ (a : ℕ). put a (flat c.spell m) t) (sym (zero-add (length l * s)))) in
      let n : length l * s + length m * s ≡ length (l ++ m) * s = sym sum ∙ ap (λ (k : ℕ). k * s) (sym (length-append l m)) in
      let b = flat_append c.spell l m in
      record { long = ap length b ∙ v.long ∙ n; bytes = v.bytes ∙ ap (λ (y : List ℕ). put 0 y was) (sym b) }

  -- one more
  pub one_listed : (l : List A) (x : A) (t u : List ℕ) → Listed l t → length (c.spell x) ≡ s → (length l + 1) * s ≤ length was → u ≡ put (length l * s) (c.spell x) t → Listed (l ++ (x ∷ [])) u
  one_listed l x t u w long h p =
      let b = flat_one c.spell x in
      run_listed l (x ∷ []) t u w (ap length b ∙ long ∙ sym (one-mul s)) h (p ∙ ap (λ (y : List ℕ). put (length l * s) y t) (sym b))

-- ---- room: whole entries

module _ (s n : ℕ) (was : List ℕ) (h : n ≤ length was / s) where
  -- n entries fit
  pub slots_room : n * s ≤ length was
  slots_room = omega (arith, mul-le-mul_right s h, div-mul-le_self (length was) s)
