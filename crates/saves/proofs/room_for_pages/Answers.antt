-- Every page is a new key, so room for their number is room for them.
use Rattle.std.proofs.Common.{◌≡◌, ◌+◌, length, ap, ◌∙◌, arith, rules}
use Rattle.table.specs.Table.{count_of, holds}
use Rattle.table.proofs.Checks.{well_two, well_count}
use Rattle.rows.proofs.Rows.{formed_well}
use Rattle.rows.proofs.Tables.{presence}
use Rattle.saves.proofs.Made.{counted}
use Rattle.saves.proofs.Runs.{pages_fit}
use Rattle.saves.proofs.room_for_pages.Goals as goal

pub room_for-requires : goal.room_for-requires
room_for-requires c = (omega arith, well_two 21 21 c.args.t.now (formed_well presence c.args.t.now c.requires.t_value.0), well_count 21 21 c.args.t.now (formed_well presence c.args.t.now c.requires.t_value.0))

pub returns : goal.returns
returns c =
    let long : length c.args.sid ≡ 16 = search rules in
    let a = c.args in
    c.room_for.ensures ∙ ap (λ m. holds 21 (count_of a.t.now + m) a.t.now) (counted a.set c.requires.t_value.1 _ c.cardinality-n.ensures)
    ∙ pages_fit a.sid (long) a.t.now c.requires.t_value.0 c.requires.t_value_2 a.set c.requires.t_value.1
