-- The segment stands behind its flag. Assumes nothing.
use Rattle.std.proofs.Common.{sym, ap, ◌∙◌}
use Rattle.commitbytes.specs.Laid.{given_segment}
use Rattle.commitbytes.proofs.CommitLaws.{segment_none, segment_there}
use Rattle.commitbytes.proofs.fields.commit_segment.Goals as goal

pub returns-then-load8-eq0 : goal.returns-then-load8-eq0
returns-then-load8-eq0 c =
    let a = c.args in
    c.zero.ensures ∙ sym (ap given_segment (segment_none a.s.now a.at (sym c.load8.ensures ∙ c.if-load8-eq0.true)))

pub returns : goal.returns
returns c =
    let a = c.args in
    c.segment_read.ensures ∙ sym (ap given_segment (segment_there a.s.now a.at (λ e. c.if-load8-eq0.false (c.load8.ensures ∙ e))))
