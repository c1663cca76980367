-- A set in normal form is laid out, and its bytes fill the array.
use Rattle.std.proofs.Common.{ℕ, replicate, ◌∙◌, arith}
use Rattle.setbytes.proofs.LaidLaws.{laid_says}
use Rattle.arguments.proofs.SetLaws.{fills}
use lib.ListN.{length-replicate}
use Rattle.callvalues.proofs.made.set_bytes.Goals as goal

pub set_write-requires : goal.set_write-requires
set_write-requires c = record { at_in_bounds = omega arith; x_value = laid_says c.args.set c.requires }

pub returns : goal.returns
returns c = c.set_write.ensures ∙ fills c.args.set (replicate 385 0) c.requires (length-replicate {A = ℕ} 385 0)
