-- The call by value answers the rule, and its answer is put as the reply. Assumes nothing.
use Rattle.std.proofs.Common.{ap, ◌∙◌}
use Rattle.basics.specs.Answers.{done}
use Rattle.arguments.specs.Replies.{value_or}
use Rattle.boundary.proofs.numbers.sigatuda_count_last_page.Goals as goal

pub returns : goal.returns
returns c = c.put_maybe_page.ensures ∙ ap (value_or (λ m. m) _) (ap done c.last_pageidx.ensures)
