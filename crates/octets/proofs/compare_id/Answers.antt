-- `octets::compare_id` meets its contract: an identifier is its 16 bytes.
use Rattle.std.proofs.Common.{rules, ap₂, ◌∙◌}
use Rattle.octets.specs.Order.{lex}
use Rattle.octets.proofs.Places.{part_whole}
use Rattle.octets.proofs.compare_id.Goals as goal

pub returns : goal.returns
returns c =
    let a = c.args in
    c.compare.ensures ∙ ap₂ lex (part_whole 16 a.a (search rules)) (part_whole 16 a.b (search rules))
