-- The 32 bytes at place 0 are the whole hash. Assumes nothing.
use borrow.Author.Rules.{rules}
use mathlib.Core.Path.{ap, ◌∙◌}
use Rattle.octets.specs.Bytes.{all_zero}
use Rattle.basics.specs.Hashes.{is_zero}
use Rattle.octets.proofs.Places.{part_whole}
use Rattle.basics.proofs.commit_hash.is_zero.Goals as goal

pub returns : goal.returns
unfolding is_zero
returns c = c.all_zero.ensures ∙ ap all_zero (part_whole 32 _ (search rules))
