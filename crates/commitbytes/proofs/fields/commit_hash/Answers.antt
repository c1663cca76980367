-- The hash stands behind its flag. Assumes nothing.
use Rattle.std.proofs.Common.{sym, ap, ◌∙◌}
use Rattle.commitbytes.specs.Laid.{hash_laid}
use Rattle.commitbytes.proofs.CommitLaws.{hash_none, hash_there}
use Rattle.commitbytes.proofs.fields.commit_hash.Goals as goal

pub returns-then-load8-eq0 : goal.returns-then-load8-eq0
returns-then-load8-eq0 c =
    let a = c.args in
    c.zero.ensures ∙ sym (ap hash_laid (hash_none a.s.now a.at (sym c.load8.ensures ∙ c.if-load8-eq0.true)))

pub returns : goal.returns
returns c =
    let a = c.args in
    c.load_hash.ensures ∙ sym (ap hash_laid (hash_there a.s.now a.at (λ e. c.if-load8-eq0.false (c.load8.ensures ∙ e))))
