-- The LSN stands as its complement. Assumes nothing.
use Rattle.std.proofs.Common.{ℕ, ◌-◌, sym, ap, ◌∙◌}
use Rattle.rules.specs.Records.{Commit}
use Rattle.commitbytes.proofs.CommitLaws.{commit_at_lem}
use Rattle.commitbytes.proofs.fields.commit_lsn.Goals as goal

pub returns : goal.returns
returns c =
    let a = c.args in
    ap (λ (n : ℕ). 18446744073709551615 - n) c.load64.ensures ∙ sym (ap (λ (c : Commit). c.lsn) (commit_at_lem a.s.now a.at))
