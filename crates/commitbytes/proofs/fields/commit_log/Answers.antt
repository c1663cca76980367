-- The log stands behind the reserved byte. Assumes nothing.
use Rattle.std.proofs.Common.{sym, ap, ◌∙◌}
use Rattle.rules.specs.Records.{Commit}
use Rattle.commitbytes.proofs.CommitLaws.{commit_at_lem}
use Rattle.commitbytes.proofs.fields.commit_log.Goals as goal

pub returns : goal.returns
returns c =
    let a = c.args in
    c.load_id.ensures ∙ sym (ap (λ (c : Commit). c.log) (commit_at_lem a.s.now a.at))
