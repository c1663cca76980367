-- The page count stands behind the key. Assumes nothing.
use Rattle.std.proofs.Common.{sym, ap, ◌∙◌}
use Rattle.rules.specs.Records.{Commit}
use Rattle.commitbytes.proofs.CommitLaws.{commit_at_lem}
use Rattle.commitbytes.proofs.fields.commit_count.Goals as goal

pub returns : goal.returns
returns c =
    let a = c.args in
    c.load32.ensures ∙ sym (ap (λ (c : Commit). c.count) (commit_at_lem a.s.now a.at))
