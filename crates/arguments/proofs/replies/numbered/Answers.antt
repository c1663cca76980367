-- The test of the definition: no refusal has the number 0. Assumes nothing.
use Rattle.std.proofs.Common.{◌∙◌, refl, sym, ap}
use Rattle.octets.specs.Guards.{if_ne}
use Rattle.basics.specs.Refusals.{number_of, code_of}
use Rattle.basics.proofs.RefusalLaws.{refusal_counts}
use Rattle.arguments.specs.Replies.{none_under, given, numbered_reply}
use Rattle.arguments.proofs.replies.numbered.Goals as goal

pub returns-in-Err : goal.returns-in-Err
returns-in-Err c =
    let n = number_of c.in-Err.refusal in
    c.refused.ensures ∙ if_ne (none_under n) given (none_under n) n 0 (refusal_counts c.in-Err.refusal) refl ∙ ap numbered_reply (sym (ap code_of c.in-Err.is))
