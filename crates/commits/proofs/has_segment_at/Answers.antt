-- `commits::has_segment_at` meets its contract: the flag of the row's segment.
use Rattle.commits.proofs.RowLaws.{row_given, row_missing}
use Rattle.commits.proofs.has_segment_at.Goals as goal

pub returns-in-Given : goal.returns-in-Given
returns-in-Given c = row_given c.args.t.now c.args.i c.row.result c.row.ensures.0 c.commit_has_segment.result c.commit_has_segment.ensures c.in-Given.is

pub returns-in-Missing : goal.returns-in-Missing
returns-in-Missing c = row_missing c.args.t.now c.args.i c.row.result c.row.ensures.0 c.commit_has_segment.result c.commit_has_segment.ensures c.in-Missing.is
