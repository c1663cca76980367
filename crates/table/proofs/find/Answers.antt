-- `table::find` meets its contract: `find_in` among all records.
use mathlib.Core.Path.{ap, ◌∙◌}
use Rattle.table.specs.Records.{spot}
use Rattle.table.proofs.Checks.{well_two, ready}
use Rattle.table.proofs.Rows.{recs_are}
use Rattle.table.proofs.find.Goals as goal

pub count-requires : goal.count-requires
count-requires c = well_two c.args.stride c.args.klen c.args.t.now c.requires.t_value

pub find_in-requires : goal.find_in-requires
find_in-requires c = let r = ready c.args.stride c.args.klen c.args.t.now c.requires.stride_nonzero.0 c.requires.t_value c.count.result c.count.ensures.0 in record { klen_le_stride = (c.requires.stride_nonzero.1, c.requires.stride_nonzero.2, r.0, c.count.ensures.1); t_value = r.1 }

pub returns : goal.returns
returns c =
    let a = c.args in
    c.find_in.ensures ∙ ap (spot a.klen a.key.now) (recs_are a.stride c.count.result a.t.now c.count.ensures.0)
