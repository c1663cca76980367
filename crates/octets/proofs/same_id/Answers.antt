-- `octets::same_id` meets its contract: an identifier is its 16 bytes.
use Rattle.std.proofs.Common.{rules, ap, ap₂, ◌∙◌}
use Rattle.octets.specs.Order.{lex, is_equal}
use Rattle.octets.proofs.Places.{part_whole}
use Rattle.octets.proofs.same_id.Goals as goal

pub returns : goal.returns
returns c =
    let a = c.args in
    c.same.ensures ∙ ap is_equal (ap₂ lex (part_whole 16 a.a (search rules)) (part_whole 16 a.b (search rules)))
