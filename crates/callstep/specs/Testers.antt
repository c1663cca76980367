-- The tester as a call list has it: five tables and four slots, in lent bytes. (No line names a tag.)
use Rattle.std.specs.Prelude.{ℕ, List}

pub record Tester : Type 0 where
  pub volumes : List ℕ
  pub commits : List ℕ
  pub checkpoints : List ℕ
  pub index : List ℕ
  pub presence : List ℕ
  pub slots : List ℕ
