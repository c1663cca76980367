-- A rule's checks, as the code makes them: a check that fails gives its number, and one that holds leaves what follows. A number other than 0 that the code got is a
-- refusal, and ends the rule. Assumes nothing.
use Rattle.std.specs.Prelude.{◌≡◌, ℕ, Bool, true, false, ltb}
use mathlib.Core.Path.{sym, ap}
use native.Mathlib.Omega.{arith}
use borrow.Author.Tests.{lt-ltb, le-ltb}
use Rattle.basics.specs.Answers.{Answer, refused, done, code, ask, ◌>>◌}

module _ {A : Type 0} (k : Answer A) (b : Bool) where
  pub stopped : (n : ℕ) → b ≡ false → refused n ≡ ask b n >> k
  stopped n h = rw h

  pub passed : (n : ℕ) → b ≡ true → k ≡ ask b n >> k
  passed n h = rw h

-- the check that an LSN or a page is not 0
module _ {A : Type 0} (k : Answer A) (n : ℕ) where
  pub zero_stopped : n ≡ 0 → refused 1 ≡ ask (ltb 0 n) 1 >> k
  zero_stopped e = stopped k (ltb 0 n) 1 (le-ltb 0 n (omega arith))

  pub zero_passed : (n ≡ 0 → ⊥) → k ≡ ask (ltb 0 n) 1 >> k
  zero_passed h = passed k (ltb 0 n) 1 (lt-ltb 0 n (omega arith))

-- a number other than 0 is a refusal
pub refuses : {A : Type 0} (a : Answer A) (n : ℕ) → n ≡ code a → (n ≡ 0 → ⊥) → a ≡ refused n
refuses (refused m) n e z = ap refused (sym e)
refuses (done x) n e z = absurd (z e)

-- a refusal is the answer of the rule, whatever would follow it
pub stops : {A : Type 0} (a : Answer (Unit {0})) (k : Answer A) (n : ℕ) → n ≡ code a → (n ≡ 0 → ⊥) → (a >> k) ≡ refused n
stops a k n e z = ap (λ (x : Answer (Unit {0})). x >> k) (refuses a n e z)
