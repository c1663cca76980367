-- A decimal is made from its last digit: what is left of the number has the digits before those that stand at the end of the bytes. Assumes nothing.
use Prim.Native.Nat.{ℕ, zero, suc, ◌+◌, ◌-◌, ◌*◌, ◌/◌, ◌%◌, ◌^◌, ◌<◌, ◌≤◌}
use mathlib.Core.Path.{◌≡◌, refl, sym, ap, ◌∙◌}
use mathlib.Core.Bool.{cond}
use mathlib.Core.List.{List, [], ◌∷◌, ◌++◌, append_assoc, append-nil}
use native.Mathlib.Numerals.{add-one}
use native.Mathlib.Omega.{arith}
use borrow.Author.Tests.{lt-ltb, le-ltb}
use lib.Dec.{ltb}
use lib.ListN.{length, get_or, set, take, drop, length-set, length-drop, length-take}
use native.Mathlib.Nat.{pow-suc}
use lib.Seq.{drop-cons, get_or-set_same, drop-set-lt, take_all}
use Rattle.calltext.specs.Output.{digits, decimal}

-- a byte stored before those at the end
before_end : (l : List ℕ) (k d : ℕ) → k < length l → drop k (set l k d) ≡ d ∷ drop (suc k) l
before_end l k d h =
    let g : k < length (set l k d) = rw (length-set l k d) h in
    drop-cons (set l k d) k 0 g ∙ rw (get_or-set_same l k d 0 h, drop-set-lt (suc k) l k d (omega arith))

pub turn : (a k r : ℕ) (l : List ℕ) → a ≡ suc k → k < length l → 10 ≤ r → digits a r ++ drop a l ≡ digits k (r / 10) ++ drop k (set l k (48 + r % 10))
unfolding digits
turn a k r l e h g = rw (e, le-ltb r 10 g, before_end l k (48 + r % 10) h, append_assoc)

pub last_digit : (a k r : ℕ) (l : List ℕ) → a ≡ suc k → k < length l → r < 10 → digits a r ++ drop a l ≡ drop k (set l k (48 + r))
unfolding digits
last_digit a k r l e h g = rw (e, lt-ltb r 10 g, before_end l k (48 + r) h)

-- a number of two digits has room for two
pub two_left : (a r : ℕ) → r < 10 ^ a → 10 ≤ r → 1 < a
two_left zero r h g = absurd (omega arith)
two_left (suc zero) r h g = absurd (omega arith)
two_left (suc (suc a)) r h g = omega arith

pub tenth : (a k r : ℕ) → a ≡ suc k → r < 10 ^ a → r / 10 < 10 ^ k
tenth a k r e h = let g : r < 10 ^ suc k = rw (← e) h in omega (arith, pow-suc 10 k)

pub none_yet : (n : ℕ) → digits 20 n ++ [] ≡ decimal n
unfolding decimal
none_yet n = append-nil (digits 20 n)

-- the bytes from a place on are the decimal
pub shown : (n f : ℕ) (l : List ℕ) → length l ≡ 20 → drop f l ≡ decimal n → (take (20 - f) (drop f l) ≡ decimal n) × (length (decimal n) ≡ 20 - f)
shown n f l e h =
    let g : length (drop f l) ≡ 20 - f = length-drop f l ∙ ap (λ (m : ℕ). m - f) e in
    (take_all (20 - f) (drop f l) (omega arith) ∙ h, sym (ap length h) ∙ g)
