-- `commits::hash_is` meets its contract: the hash of the row, where it begins.
use Rattle.rules.specs.Records.{Commit}
use Rattle.commits.proofs.RowLaws.{row_read}
use Rattle.rules.specs.Push.{is_hash}
use Rattle.commits.proofs.hash_is.Goals as goal

pub returns : goal.returns
returns c = row_read c.args.t.now c.args.i c.row.result c.row.ensures.0 (λ (x : Commit). is_hash x.hash c.args.hash) _ c.commit_hash_is.ensures
