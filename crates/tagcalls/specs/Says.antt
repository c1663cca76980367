-- What the answers of the calls on tags say: document 01's number, or under 0 a volume's identifier or nothing.
use Rattle.std.specs.Prelude.{Option as Maybe, Some, None, Result, Ok, Err}
use Rattle.std.proofs.Math.Option.{Option, none, some}
use Rattle.basics.specs.Answers.{Answer, refused, done, ◌>>=◌}
use Rattle.basics.specs.Refusals.{number_of}
use Rattle.basics.specs.declared.refusal.Refusal.{Refusal}
use Rattle.rules.specs.Records.{Id, Tag}
use Rattle.rules.specs.Tables.{Table}

-- a volume's identifier, or nothing
abbrev pub named_says : Maybe Id → Option Id
named_says None = none
named_says (Some vid) = some vid

abbrev pub tagged_says : Result (Maybe Id) Refusal → Answer (Option Id)
tagged_says (Err r) = refused (number_of r)
tagged_says (Ok v) = done (named_says v)

-- of a replacement's answer the volume that the tag named before
abbrev pub earlier : Answer (Option Id × Table Tag) → Answer (Option Id)
earlier a = a >>= (λ p. done p.0)
