-- `commits::sid_is` meets its contract: the segment of the row, where it begins.
use Rattle.rules.specs.Records.{Commit}
use Rattle.commits.proofs.RowLaws.{row_read}
use Rattle.rules.specs.Save.{has_sid}
use Rattle.commits.proofs.sid_is.Goals as goal

pub returns : goal.returns
returns c = row_read c.args.t.now c.args.i c.row.result c.row.ensures.0 (λ (x : Commit). has_sid c.args.sid x.segment) _ c.commit_sid_is.ensures
