-- A printed line is its parts, each stored where the one before it ends. Assumes nothing.
use Prim.Native.Nat.{ℕ, ◌+◌, ◌≤◌}
use mathlib.Core.Path.{◌≡◌, refl, sym, ap, ◌∙◌}
use mathlib.Core.List.{List, ◌++◌}
use mathlib.Core.Option.{Option, none, some}
use native.Mathlib.Omega.{arith}
use lib.ListN.{length}
use Rattle.octets.specs.Bytes.{put}
use Rattle.octets.proofs.Places.{Stored, stored, then_stored}
use Rattle.calltext.specs.Output.{decimal, log_text, lsn_of, line=, code=, log=, lsn=, output_line}

next : {k : ℕ} {xs s t : List ℕ} → Stored 0 k xs s t → (a : ℕ) → a ≡ k → (ys u : List ℕ) → k + length ys ≤ length s → u ≡ put a ys t → Stored 0 (k + length ys) (xs ++ ys) s u
next {k} {xs} {s} {t} r a e ys u h p =
    let q : a ≡ 0 + k = omega arith in
    then_stored r (length ys) ys refl (omega arith) (p ∙ ap (λ (m : ℕ). put m ys t) q)

log_short : (h : Option (ℕ × ℕ)) → length (log_text h) ≤ 2
log_short none = omega arith
log_short (some h) = omega arith

-- the line with an LSN
abbrev line_with : ℕ → ℕ → Option (ℕ × ℕ) → ℕ → List ℕ
line_with n c h x = ((((((line= ++ decimal n) ++ code=) ++ decimal c) ++ log=) ++ log_text h) ++ lsn=) ++ decimal x

module _ (s : List ℕ) (n c : ℕ) (h : Option (ℕ × ℕ)) (room : 96 ≤ length s) (t₁ t₂ t₃ t₄ t₅ t₆ t₇ t₈ : List ℕ) (a b d x r : ℕ) where
  pub printed : t₁ ≡ put 0 line= s → t₂ ≡ put 5 (decimal n) t₁ → (a ≡ 5 + length (decimal n)) × (length (decimal n) ≤ 20)
      → t₃ ≡ put a code= t₂ → t₄ ≡ put (a + 6) (decimal c) t₃ → (b ≡ a + 6 + length (decimal c)) × (length (decimal c) ≤ 20)
      → t₅ ≡ put b log= t₄ → t₆ ≡ put (b + 5) (log_text h) t₅ → d ≡ b + 5 + length (log_text h)
      → t₇ ≡ put d lsn= t₆ → t₈ ≡ put (d + 5) (decimal x) t₇ → (r ≡ d + 5 + length (decimal x)) × (length (decimal x) ≤ 20) → x ≡ lsn_of h
      → (t₈ ≡ put 0 (output_line n c h) s) × (r ≡ length (output_line n c h))
  unfolding output_line
  printed e₁ e₂ la e₃ e₄ lb e₅ e₆ ld e₇ e₈ lr ex =
      let short : length (log_text h) ≤ 2 = log_short h in
      let r₁ = stored 0 5 line= s refl e₁ in
      let r₂ = next r₁ 5 refl (decimal n) t₂ (omega arith) e₂ in
      let r₃ = next r₂ a (omega arith) code= t₃ (omega arith) e₃ in
      let r₄ = next r₃ (a + 6) (omega arith) (decimal c) t₄ (omega arith) e₄ in
      let r₅ = next r₄ b (omega arith) log= t₅ (omega arith) e₅ in
      let r₆ = next r₅ (b + 5) (omega arith) (log_text h) t₆ (omega arith) e₆ in
      let r₇ = next r₆ d (omega arith) lsn= t₇ (omega arith) e₇ in
      let r₈ = next r₇ (d + 5) (omega arith) (decimal x) t₈ (omega arith) e₈ in
      let long : r ≡ length (line_with n c h x) = omega (arith, r₈.long) in
      (r₈.bytes ∙ ap (λ (y : ℕ). put 0 (line_with n c h y) s) ex, long ∙ ap (λ (y : ℕ). length (line_with n c h y)) ex)
