-- What a head of the code says: nothing, or the last byte of its log and its LSN.
use Rattle.std.specs.Prelude.{ℕ}
use Rattle.std.proofs.Math.Option.{Option, none, some}
use Rattle.calltext.specs.declared.Head.{Head}
use Rattle.calltext.specs.declared.Head.TheVariants as Head

abbrev pub head_says : Head → Option (ℕ × ℕ)
head_says Head.Nothing = none
head_says (Head.At b n) = some (b, n)
