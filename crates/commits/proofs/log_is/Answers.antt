-- `commits::log_is` meets its contract: the 16 bytes at 1 of the row.
use Rattle.std.proofs.Common.{◌≡◌, length, rules}
use Rattle.commits.proofs.RowLaws.{row_log}
use Rattle.commits.proofs.log_is.Goals as goal

pub returns : goal.returns
returns c =
    let l : length c.args.log ≡ 16 = search rules in
    row_log c.args.t.now c.args.i c.row.result c.row.ensures.0 c.args.log c.same.result l c.same.ensures
