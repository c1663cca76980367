-- `indexing::checkpoint_rows` meets its contract. The invariant: the first i rows are those of the first i LSNs.
use Rattle.std.proofs.Common.{◌≡◌, ◌-◌, length, arith, rules}
use Rattle.indexing.proofs.CheckpointRows.{stored_none, stored_more}
use Rattle.indexing.proofs.checkpoint_rows.Goals as goal

pub loop-i-init : goal.loop-i-init
loop-i-init c =
    let long : length c.args.log ≡ 16 = search rules in
    (search rules, stored_none c.args.log (long) c.args.lsns _)

pub store_all-requires : goal.store_all-requires
store_all-requires c =
    let k : length c.log_key-k.result ≡ 25 = search rules in
    omega (arith, c.loop-i.invariant.0)

pub loop-i-preserved : goal.loop-i-preserved
loop-i-preserved c =
    let long : length c.args.log ≡ 16 = search rules in
    let eight : length c.args.lsns ≡ 8 = search rules in
    let a = c.args in
    let l = c.loop-i in (
      omega (arith, c.store_all.auto.s, l.invariant.0),
      stored_more a.log (long) a.lsns l.i c.log_key-k.result l.rows _ (omega (arith, eight)) (omega (arith, l.invariant.0)) c.log_key-k.ensures c.store_all.ensures l.invariant.1,
    )

pub returns : goal.returns
returns c =
    let l = c.loop-i in
    let z : l.i ≡ c.args.n = omega arith in
    rw z at l.invariant.1
