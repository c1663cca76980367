-- The flag of the hash says so. Assumes nothing.
use Rattle.std.proofs.Common.{sym, ap, ◌∙◌}
use Rattle.rules.specs.Records.{Commit}
use Rattle.layout.specs.Records.{hash_bytes}
use Rattle.commitbytes.specs.Laid.{presence}
use Rattle.commitbytes.proofs.PartLaws.{flag_says}
use Rattle.commitbytes.proofs.CommitLaws.{commit_at_lem}
use Rattle.commitbytes.proofs.fields.commit_has_hash.Goals as goal

pub returns : goal.returns
returns c =
    let a = c.args in
    c.flag_read.ensures ∙ flag_says hash_bytes a.s.now _ ∙ sym (ap (λ (c : Commit). presence c.hash) (commit_at_lem a.s.now a.at))
