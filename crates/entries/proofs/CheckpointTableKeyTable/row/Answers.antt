-- Each number is a field of the record.
use Rattle.std.proofs.Common.{◌≡◌, not, ◌&&◌, eqb, sym, ◌∙◌, ap₂, arith}
use Rattle.octets.specs.Bytes.{part}
use Rattle.octets.proofs.Places.{part_part}
use Rattle.entries.specs.Keys.{Checkpoints, row_form}
use Rattle.entries.proofs.RowForms.{checkpoint_asked}
use Rattle.entries.proofs.CheckpointTableKeyTable.row.Goals as goal

pub returns : goal.returns
returns c =
    let a = c.args in
    let f : (eqb c.load8-reserved.result 0 && not (eqb c.load64-lsn.result 18446744073709551615)) ≡ row_form Checkpoints (part a.at 25 a.s.now) =
    ap₂ (λ b w. eqb b 0 && not (eqb w 18446744073709551615)) c.load8-reserved.ensures c.load64-lsn.ensures ∙ sym (checkpoint_asked a.s.now a.at (λ j. (c.type_inv.s j).fits) c.requires) in
    rw (f, c.load64-high.ensures, c.load64-low.ensures, c.load64-lsn.ensures, ← part_part a.at 25 1 8 a.s.now (omega arith), ← part_part a.at 25 9 8 a.s.now (omega arith), ← part_part a.at 25 17 8 a.s.now (omega arith))
