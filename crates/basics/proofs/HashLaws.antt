-- ZERO passes the test for it, and no other hash of 32 bytes does. Assumes nothing.
use Rattle.std.specs.Prelude.{◌≡◌, ℕ, true, List, length, replicate}
use mathlib.Core.Path.{ap, ◌∙◌}
use Rattle.octets.proofs.Places.{all_zero_true, all_zero_zeros}
use Rattle.basics.specs.Hashes.{zero_hash, is_zero}

pub zero_is : is_zero zero_hash ≡ true
unfolding is_zero zero_hash
zero_is = all_zero_zeros 32

pub is_zero_lem : (h : List ℕ) → length h ≡ 32 → is_zero h ≡ true → h ≡ zero_hash
unfolding is_zero zero_hash
is_zero_lem h l e = all_zero_true h e ∙ ap (λ (n : ℕ). replicate n 0) l
