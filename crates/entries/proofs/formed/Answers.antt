-- The count is asked first, and then the rows in one pass.
use Rattle.std.proofs.Common.{◌∙◌}
use Rattle.entries.proofs.Pass.{count_not, count_room, table_rows}
use mathlib.Core.Path.{ap}
use mathlib.Core.Bool.{not}
use Rattle.entries.proofs.formed.Goals as goal

pub returns-then-not-count_fits : goal.returns-then-not-count_fits
returns-then-not-count_fits g c =
    count_not g.T.KeyTable.which c.SIZE.result (c.SIZE.ensures ∙ g.met.T.KeyTable.sized) c.args.t.now c.count_fits.result c.count_fits.ensures (ap not c.if-not-count_fits.true)

pub rows_formed-requires : goal.rows_formed-requires
rows_formed-requires g c =
    count_room g.T.KeyTable.which c.SIZE.result (c.SIZE.ensures ∙ g.met.T.KeyTable.sized) c.args.t.now c.count_fits.result c.count_fits.ensures (ap not c.if-not-count_fits.false) c.count.result c.count.ensures.0

pub returns : goal.returns
returns g c =
    c.rows_formed.ensures
    ∙ table_rows g.T.KeyTable.which c.SIZE.result (c.SIZE.ensures ∙ g.met.T.KeyTable.sized) c.args.t.now c.count_fits.result c.count_fits.ensures (ap not c.if-not-count_fits.false) c.count.result c.count.ensures.0
