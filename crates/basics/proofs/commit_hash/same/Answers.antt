-- The 32 bytes at place 0 are the whole hash. Assumes nothing.
use borrow.Author.Rules.{rules}
use mathlib.Core.Path.{ap, ap₂, ◌∙◌}
use Rattle.octets.specs.Order.{is_equal, lex}
use Rattle.octets.proofs.Places.{part_whole}
use Rattle.basics.proofs.commit_hash.same.Goals as goal

pub returns : goal.returns
returns c = c.same.ensures ∙ ap is_equal (ap₂ lex (part_whole 32 _ (search rules)) (part_whole 32 _ (search rules)))
