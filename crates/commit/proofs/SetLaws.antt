-- The rules' lists of windows: a list in order is known by its pages. Assumes nothing.
use Rattle.std.proofs.Common.{◌≡◌, ℕ, ◌+◌, ◌*◌, ◌/◌, ◌%◌, List, sym, ◌∙◌, ap₂, arith}
use Rattle.pageset.specs.declared.Window.{Window}
use Rattle.pageset.specs.Sets.{bit, mask_at, holds}
use Rattle.pageset.proofs.BitLaws.{bit_ext}
use Rattle.pageset.proofs.FormLaws.{Rises}
pub use Rattle.pageset.proofs.FormLaws.{shown_form as form_of}
use Rattle.pageset.proofs.WindowLaws.{mask_lt, known}

-- a list of windows in order is known by its pages
pub one_list : (a b : List Window) → Rises 0 a → Rises 0 b → ((p : ℕ) → holds a p ≡ holds b p) → a ≡ b
unfolding holds
one_list a b r t h = known 0 0 a b r t (λ q.
    bit_ext 64 _ _ (mask_lt 0 a q r) (mask_lt 0 b q t) (λ k l.
    let d : (q * 64 + k) / 64 ≡ q = omega arith in
    let m : (q * 64 + k) % 64 ≡ k = omega arith in
    sym (ap₂ (λ (x y : ℕ). bit (mask_at a x) y) d m) ∙ h (q * 64 + k) ∙ ap₂ (λ (x y : ℕ). bit (mask_at b x) y) d m))
