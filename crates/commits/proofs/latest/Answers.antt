-- `commits::latest` meets its contract: the record at the place of the last LSN, if it is the log's.
use Rattle.std.proofs.Common.{◌≡◌, length, arith, rules}
use Rattle.rows.proofs.Rows.{formed_well}
use Rattle.rows.proofs.Tables.{commits}
use Rattle.rows.proofs.Rows.{formed_two}
use Rattle.commits.proofs.LookLaws.{latest_end, latest_other, latest_here}
use Rattle.commits.proofs.latest.Goals as goal

pub from_key-i-requires : goal.from_key-i-requires
from_key-i-requires c = let n : length c.log_key-key.result ≡ 25 = search rules in record { stride_nonzero = (omega arith, omega arith, omega arith); t_value = formed_well commits c.args.t.now c.requires }

pub count-requires : goal.count-requires
count-requires c = formed_two commits c.args.t.now c.requires

pub returns-then-i-count : goal.returns-then-i-count
returns-then-i-count c =
    let l : length c.args.log ≡ 16 = search rules in
    latest_end c.args.t.now c.requires c.args.log l c.log_key-key.result c.log_key-key.ensures c.from_key-i.result c.from_key-i.ensures.0 (omega (arith, c.count.ensures.0, c.if-i-count.true))

pub returns-then-not-log_is : goal.returns-then-not-log_is
returns-then-not-log_is c =
    let l : length c.args.log ≡ 16 = search rules in
    latest_other c.args.t.now c.requires c.args.log l c.log_key-key.result c.log_key-key.ensures c.from_key-i.result c.from_key-i.ensures.0 (omega (arith, c.from_key-i.ensures.1, c.count.ensures.0, c.if-i-count.false)) c.log_is.result c.log_is.ensures (c.if-not-log_is.true)

pub returns : goal.returns
returns c =
    let l : length c.args.log ≡ 16 = search rules in
    latest_here c.args.t.now c.requires c.args.log l c.log_key-key.result c.log_key-key.ensures c.from_key-i.result c.from_key-i.ensures.0 (omega (arith, c.from_key-i.ensures.1, c.count.ensures.0, c.if-i-count.false)) c.log_is.result c.log_is.ensures (c.if-not-log_is.false)
