-- By the spot of the identifier: the volume there is the one of the identifier, and in a gap there is none.
use Rattle.std.proofs.Common.{ℕ, sym, ap, ◌∙◌, Result}
use Rattle.rules.specs.Lists.{is_none}
use Rattle.table.proofs.Ends.{at_in}
use Rattle.layout.specs.Tables.{volumes_in}
use Rattle.rows.specs.Lookups.{at_spot}
use Rattle.rows.proofs.Finds.{row_nth}
use Rattle.rows.proofs.Tables.{volumes}
use Rattle.volumes.proofs.vid_free.Goals as goal

pub returns-in-Ok : goal.returns-in-Ok
returns-in-Ok c =
    let t = c.args.t.now in
    let found = c.find_volume.ensures in
    ap is_none (sym (row_nth volumes t _ (at_in 117 17 t _ _ _ found.place c.in-Ok.is)) ∙ ap (λ (p : Result ℕ ℕ). at_spot p (volumes_in t).rows) (sym c.in-Ok.is) ∙ found.says)

pub returns-in-Err : goal.returns-in-Err
returns-in-Err c =
    let t = c.args.t.now in
    ap is_none (ap (λ (p : Result ℕ ℕ). at_spot p (volumes_in t).rows) (sym c.in-Err.is) ∙ c.find_volume.ensures.says)
