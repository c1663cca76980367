-- The set stands in the segment, behind its flag and its identifier; a missing segment has no pages.
use Rattle.std.proofs.Common.{sym, ◌∙◌}
use Rattle.writecalls.proofs.Rows.{no_pages, pages_there}
use Rattle.writecalls.proofs.commit_pages.Goals as goal

pub returns-then-load8-eq0 : goal.returns-then-load8-eq0
returns-then-load8-eq0 c = c.empty.ensures ∙ no_pages c.args.c.now c.requires (sym c.load8.ensures ∙ c.if-load8-eq0.true)

pub returns : goal.returns
returns c = c.set_read.ensures ∙ pages_there c.args.c.now c.requires (λ e. c.if-load8-eq0.false (c.load8.ensures ∙ e))
