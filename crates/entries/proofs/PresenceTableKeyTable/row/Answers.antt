-- Each number is a field of the record.
use Rattle.std.proofs.Common.{◌≡◌, not, ◌&&◌, eqb, sym, ◌∙◌, ap₂, arith}
use Rattle.octets.specs.Bytes.{part}
use Rattle.octets.proofs.Places.{part_part}
use Rattle.entries.specs.Keys.{Presence, row_form}
use Rattle.entries.proofs.RowForms.{present_asked}
use Rattle.entries.proofs.PresenceTableKeyTable.row.Goals as goal

pub returns : goal.returns
returns c =
    let a = c.args in
    let f : (eqb c.load8-reserved.result 0 && not (eqb c.load32-page.result 4294967295)) ≡ row_form Presence (part a.at 21 a.s.now) =
    ap₂ (λ b w. eqb b 0 && not (eqb w 4294967295)) c.load8-reserved.ensures c.load32-page.ensures ∙ sym (present_asked a.s.now a.at (λ j. (c.type_inv.s j).fits) c.requires) in
    rw (f, c.load64-high.ensures, c.load64-low.ensures, c.load32-page.ensures, ← part_part a.at 21 1 8 a.s.now (omega arith), ← part_part a.at 21 9 8 a.s.now (omega arith), ← part_part a.at 21 17 4 a.s.now (omega arith))
