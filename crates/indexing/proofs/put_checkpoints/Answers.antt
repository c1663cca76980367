-- `indexing::put_checkpoints` meets its contract: the rows are those of the checkpoints.
use Rattle.std.proofs.Common.{◌≡◌, length, arith, rules}
use Rattle.indexing.proofs.put_checkpoints.Goals as goal

pub put_all-requires : goal.put_all-requires
put_all-requires c = let p = c.requires in
    let rows : length c.checkpoint_rows-rows.result ≡ 200 = search rules in record { stride_nonzero = (omega arith, omega arith, omega arith); t_value = p.t_value; t_value_2 = rw c.checkpoint_rows-rows.ensures p.t_value_2 }

pub returns : goal.returns
returns c = rw c.checkpoint_rows-rows.ensures at c.put_all.ensures
