-- `commits::count_at` meets its contract: the page count of the row, where it begins.
use Rattle.rules.specs.Records.{Commit}
use Rattle.commits.proofs.RowLaws.{row_read}
use Rattle.commits.proofs.count_at.Goals as goal

pub returns : goal.returns
returns c = row_read c.args.t.now c.args.i c.row.result c.row.ensures.0 (λ (x : Commit). x.count) _ c.commit_count-count.ensures
