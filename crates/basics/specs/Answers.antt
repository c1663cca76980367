-- What a call answers: a number of document 01 and no value, or a value under the number 0.
use Rattle.std.specs.Prelude.{ℕ, Bool, true, false}
use Rattle.std.proofs.Math.Option.{Option, none, some}

infixl 10 ◌>>=◌
infixl 10 ◌>>◌
pub data Answer (A : Type 0) : Type 0 where
  refused : ℕ → Answer A
  done : A → Answer A

-- the number that a caller gets back
abbrev pub code : {A : Type 0} → Answer A → ℕ
code (refused n) = n
code (done a) = 0

-- the first refusal is the answer; else the value goes on
abbrev pub ◌>>=◌ : {A B : Type 0} → Answer A → (A → Answer B) → Answer B
◌>>=◌ (refused n) k = refused n
◌>>=◌ (done a) k = k a

abbrev pub ◌>>◌ : {B : Type 0} → Answer (Unit {0}) → Answer B → Answer B
◌>>◌ (refused n) k = refused n
◌>>◌ (done a) k = k

-- the test holds, or the number
abbrev pub ask : Bool → ℕ → Answer (Unit {0})
ask true n = done tt
ask false n = refused n

-- the thing is there, or the number
abbrev pub need : {A : Type 0} → Option A → ℕ → Answer A
need none n = refused n
need (some a) n = done a
