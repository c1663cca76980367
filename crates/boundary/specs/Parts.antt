-- A part of what is lent, as an answer.
use Rattle.std.specs.Prelude.{ℕ, ◌-◌, List, take, drop}
use Rattle.std.proofs.Math.Option.{Option}
use Rattle.basics.specs.Answers.{Answer}
use Rattle.arguments.specs.declared.Reply.{Reply}
use Rattle.arguments.specs.Replies.{value_or}

-- the lent bytes from a start up to but not at an end; else the part stays as found
abbrev pub part_left : List ℕ → List ℕ → Answer (Option (ℕ × ℕ)) → Reply × List ℕ
part_left lent was q = value_or (λ x. take (x.1 - x.0) (drop x.0 lent)) was q
