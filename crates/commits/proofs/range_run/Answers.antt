-- `commits::range_run` meets its contract: the run between the keys of its ends.
use Rattle.std.proofs.Common.{◌≡◌, length, arith, rules}
use Rattle.rows.proofs.Rows.{formed_well}
use Rattle.rows.proofs.Tables.{commits}
use Rattle.commits.proofs.LookLaws.{range_found}
use Rattle.commits.proofs.range_run.Goals as goal

pub between-requires : goal.between-requires
between-requires c = let n : length c.log_key-first.result ≡ 25 = search rules in
    let m : length c.log_key-last.result ≡ 25 = search rules in record { stride_nonzero = (omega arith, omega arith, omega arith, omega arith); t_value = formed_well commits c.args.t.now c.requires }

pub returns : goal.returns
returns c =
    let l : length c.args.log ≡ 16 = search rules in
    range_found c.args.t.now c.requires c.args.log l c.args.start c.args.end c.log_key-first.result c.log_key-last.result c.ranges.start.fits c.ranges.end.fits c.log_key-first.ensures c.log_key-last.ensures _ _ c.between.ensures
