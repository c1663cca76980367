-- `commits::find_commit` meets its contract: the spot of the key is the place of its record.
use Rattle.std.proofs.Common.{◌≡◌, length, sym, ◌∙◌, arith, rules}
use Rattle.rows.proofs.Rows.{formed_well}
use Rattle.rows.proofs.Tables.{commits}
use Rattle.commits.proofs.LookLaws.{found_at, found_gap}
use Rattle.commits.proofs.find_commit.Goals as goal

pub find-requires : goal.find-requires
find-requires c = let n : length c.log_key-key.result ≡ 25 = search rules in record { stride_nonzero = (omega arith, omega arith, omega arith); t_value = formed_well commits c.args.t.now c.requires }

pub returns-in-Ok : goal.returns-in-Ok
returns-in-Ok c =
    let l : length c.args.log ≡ 16 = search rules in
    found_at c.args.t.now c.requires c.args.log l c.args.lsn c.ranges.lsn.fits c.log_key-key.result c.log_key-key.ensures c.in-Ok.i (sym c.find.ensures ∙ c.in-Ok.is)

pub returns-in-Err : goal.returns-in-Err
returns-in-Err c =
    let l : length c.args.log ≡ 16 = search rules in
    found_gap c.args.t.now c.requires c.args.log l c.args.lsn c.ranges.lsn.fits c.log_key-key.result c.log_key-key.ensures c.in-Err.field-0 (sym c.find.ensures ∙ c.in-Err.is)
