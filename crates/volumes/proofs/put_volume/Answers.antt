-- A put of the row is the rules' store: the laws `put_fits` and `put_laid`.
use Rattle.std.proofs.Common.{ℕ, List, ap, ◌∙◌, arith, rules}
use Rattle.table.specs.Records.{put}
use Rattle.table.specs.Table.{recs, laid, fits}
use Rattle.volume.specs.Volumes.{volume_says}
use Rattle.rows.proofs.Rows.{formed_well}
use Rattle.rows.proofs.Stores.{put_fits, put_laid}
use Rattle.rows.proofs.Tables.{volumes}
use Rattle.volumes.proofs.put_volume.Goals as goal

pub put-requires : goal.put-requires
put-requires c = let t = c.args.t.now in record { stride_nonzero = (omega arith, omega arith, search rules); t_value = formed_well volumes t c.requires.t_value.0; t_value_2 = ap (λ (r : List ℕ). fits 117 (put 17 r (recs 117 t)) t) c.volume_row-row.ensures ∙ put_fits volumes t c.requires.t_value.0 (volume_says c.args.v) c.requires.t_value.1 ∙ c.requires.t_value_2 }

pub returns : goal.returns
returns c =
    let t = c.args.t.now in
    c.put.ensures
    ∙ ap (λ (r : List ℕ). laid (put 17 r (recs 117 t)) t) c.volume_row-row.ensures
    ∙ put_laid volumes t c.requires.t_value.0 (volume_says c.args.v) c.requires.t_value.1
