-- Byte strings stand as `lex` says. Assumes nothing.
use mathlib.Core.Path.{ap, ◌∙◌}
use Rattle.octets.specs.Order.{ordering}
use Rattle.basics.proofs.OrderLaws.{ordering_lex}
use Rattle.basics.proofs.id.compare.Goals as goal

pub returns : goal.returns
returns c = ap ordering c.compare_id.ensures ∙ ordering_lex _ _
