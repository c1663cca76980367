-- To take a chain of checks apart: what an answer says of each check, from the first on.
use Rattle.std.proofs.Common.{◌≡◌, ℕ, Bool, true, false, refl, arith}
use mathlib.Core.Option.{Option, none, some}
use Rattle.basics.specs.Answers.{Answer, refused, done, ask, need, ◌>>=◌, ◌>>◌}

pub refused_same : {A : Type 0} {m n : ℕ} → ◌≡◌ {A = Answer A} (refused m) (refused n) → m ≡ n
refused_same e = cc

pub done_same : {A : Type 0} {a b : A} → ◌≡◌ {A = Answer A} (done a) (done b) → a ≡ b
done_same e = cc

pub refused_done : {A B : Type 0} {n : ℕ} {a : A} → ◌≡◌ {A = Answer A} (refused n) (done a) → B
refused_done e = absurd (let z : ◌≡◌ {A = ℕ} 0 1 = cc in omega arith)

-- refused with m by a check that refuses with another number: the check passed, and what follows refused
pub ask_past : {A : Type 0} (b : Bool) (n : ℕ) (k : Answer A) {m : ℕ} → (n ≡ m → ⊥) → ask b n >> k ≡ refused m → (b ≡ true) × (k ≡ refused m)
ask_past true n k d e = (refl, e)
ask_past false n k d e = absurd (d (refused_same e))

pub need_past : {A B : Type 0} (o : Option A) (n : ℕ) (k : A → Answer B) {m : ℕ} → (n ≡ m → ⊥) → need o n >>= k ≡ refused m → (a : A) × (o ≡ some a) × (k a ≡ refused m)
need_past none n k d e = absurd (d (refused_same e))
need_past (some a) n k d e = (a, refl, e)

-- done: every check passed; what each says is handed to what follows, so that a chain reads as the call's text does, and leaves variables and no terms
pub asked : {A P : Type 0} (b : Bool) (n : ℕ) (k : Answer A) {a : A} → ask b n >> k ≡ done a → (b ≡ true → k ≡ done a → P) → P
asked true n k e f = f refl e
asked false n k e f = refused_done e

pub needed : {A B P : Type 0} (o : Option A) (n : ℕ) (k : A → Answer B) {b : B} → need o n >>= k ≡ done b → ((a : A) → o ≡ some a → k a ≡ done b → P) → P
needed none n k e f = refused_done e
needed (some a) n k e f = f a refl e

pub gotten : {A B P : Type 0} (m : Answer A) (k : A → Answer B) {b : B} → m >>= k ≡ done b → ((a : A) → m ≡ done a → k a ≡ done b → P) → P
gotten (refused n) k e f = refused_done e
gotten (done a) k e f = f a refl e
