-- The room for the row is the rules': the law `put_fits`.
use Rattle.std.proofs.Common.{ℕ, List, ap, ◌∙◌, arith}
use Rattle.table.specs.Records.{put}
use Rattle.table.specs.Table.{recs, fits}
use Rattle.volume.specs.Volumes.{volume_says}
use Rattle.rows.proofs.Rows.{formed_well}
use Rattle.rows.proofs.Stores.{put_fits}
use Rattle.rows.proofs.Tables.{volumes}
use Rattle.volumes.proofs.room_for_volume.Goals as goal

pub room-requires : goal.room-requires
room-requires c = record { stride_nonzero = (omega arith, omega arith, omega arith); t_value = formed_well volumes c.args.t.now c.requires.0 }

pub returns : goal.returns
returns c =
    let t = c.args.t.now in
    c.room.ensures
    ∙ ap (λ (r : List ℕ). fits 117 (put 17 r (recs 117 t)) t) c.volume_row-row.ensures
    ∙ put_fits volumes t c.requires.0 (volume_says c.args.v) c.requires.1
