-- Each number is a field of the record.
use Rattle.std.proofs.Common.{◌≡◌, not, ◌&&◌, eqb, sym, ap, ◌∙◌, ap₂, arith}
use Rattle.std.proofs.Math.Bool.{and_assoc}
use Rattle.octets.specs.Bytes.{be, part}
use Rattle.octets.proofs.Places.{part_part}
use Rattle.entries.specs.Keys.{Index, row_form}
use Rattle.entries.proofs.RowForms.{entry_asked}
use Rattle.entries.proofs.IndexTableKeyTable.row.Goals as goal

pub returns : goal.returns
returns c =
    let a = c.args in
    let f : (eqb c.load8-reserved.result 0 && not (eqb c.load32-page.result 0) && not (eqb c.load64-lsn.result 18446744073709551615)) ≡ row_form Index (part a.at 29 a.s.now) =
    and_assoc (eqb c.load8-reserved.result 0) (not (eqb c.load32-page.result 0)) (not (eqb c.load64-lsn.result 18446744073709551615))
    ∙ ap (λ b. eqb b 0 && (not (eqb c.load32-page.result 0) && not (eqb c.load64-lsn.result 18446744073709551615))) c.load8-reserved.ensures
    ∙ ap₂ (λ p w. eqb (be (part a.at 1 a.s.now)) 0 && (not (eqb p 0) && not (eqb w 18446744073709551615))) c.load32-page.ensures c.load64-lsn.ensures
    ∙ sym (entry_asked a.s.now a.at (λ j. (c.type_inv.s j).fits) c.requires) in
    rw (f, c.load64-high.ensures, c.load64-low.ensures, c.load32-page.ensures, c.load64-lsn.ensures, ← part_part a.at 29 1 8 a.s.now (omega arith), ← part_part a.at 29 9 8 a.s.now (omega arith), ← part_part a.at 29 17 4 a.s.now (omega arith), ← part_part a.at 29 21 8 a.s.now (omega arith))
