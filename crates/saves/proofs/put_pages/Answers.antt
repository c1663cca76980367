-- The new rows are one run at the place of the segment's last page: what is behind it moves up by their number, they fill the gap, the count is stored.
use Rattle.std.proofs.Common.{◌≡◌, ◌+◌, ◌*◌, ◌≤◌, length, refl, ◌∙◌, arith, rules}
use Rattle.pageset.specs.Sets.{shown}
use Rattle.rules.specs.Pages.{size}
use Rattle.table.specs.Table.{count_of}
use Rattle.table.proofs.Checks.{well_two}
use Rattle.rows.proofs.Rows.{formed_well}
use Rattle.rows.proofs.Tables.{presence}
use Rattle.saves.proofs.Made.{counted}
use Rattle.saves.proofs.Runs.{pages_room, pages_laid}
use Rattle.saves.proofs.Fills.{run_stored}
use Rattle.saves.proofs.put_pages.Goals as goal

pub from_key-i-requires : goal.from_key-i-requires
from_key-i-requires c = record { stride_nonzero = search rules; t_value = formed_well presence c.args.t.now c.requires.t_value.0 }

pub count-count-requires : goal.count-count-requires
count-count-requires c = well_two 21 21 c.args.t.now (formed_well presence c.args.t.now c.requires.t_value.0)

pub move_up-requires : goal.move_up-requires
move_up-requires c =
    let long : length c.args.sid ≡ 16 = search rules in
    -- the bytes reach as far as the records after
    let room : (count_of c.args.t.now + size (shown c.args.set) ≤ 65535) × (2 + (count_of c.args.t.now + size (shown c.args.set)) * 21 ≤ length c.args.t.now) = pages_room c.args.sid (long) c.args.t.now c.requires.t_value.0 c.requires.t_value_2 c.args.set c.requires.t_value.1 c.requires.t_value_3 in
    omega (arith, (room).1, counted c.args.set c.requires.t_value.1 _ c.cardinality-n.ensures, c.from_key-i.ensures.1, c.count-count.ensures.0)

pub fill_pages-requires : goal.fill_pages-requires
fill_pages-requires c =
    let long : length c.args.sid ≡ 16 = search rules in
    let room : (count_of c.args.t.now + size (shown c.args.set) ≤ 65535) × (2 + (count_of c.args.t.now + size (shown c.args.set)) * 21 ≤ length c.args.t.now) = pages_room c.args.sid (long) c.args.t.now c.requires.t_value.0 c.requires.t_value_2 c.args.set c.requires.t_value.1 c.requires.t_value_3 in
    (c.requires.t_value.1, omega (arith, (room).1, c.from_key-i.ensures.1, c.count-count.ensures.0, c.move_up.auto.s))

pub store16-requires : goal.store16-requires
store16-requires c =
    let long : length c.args.sid ≡ 16 = search rules in
    let room : (count_of c.args.t.now + size (shown c.args.set) ≤ 65535) × (2 + (count_of c.args.t.now + size (shown c.args.set)) * 21 ≤ length c.args.t.now) = pages_room c.args.sid (long) c.args.t.now c.requires.t_value.0 c.requires.t_value_2 c.args.set c.requires.t_value.1 c.requires.t_value_3 in
    omega (arith, (room).1, c.fill_pages.auto.t, c.move_up.auto.s)

pub returns : goal.returns
returns c =
    let long : length c.args.sid ≡ 16 = search rules in
    let room : (count_of c.args.t.now + size (shown c.args.set) ≤ 65535) × (2 + (count_of c.args.t.now + size (shown c.args.set)) * 21 ≤ length c.args.t.now) = pages_room c.args.sid (long) c.args.t.now c.requires.t_value.0 c.requires.t_value_2 c.args.set c.requires.t_value.1 c.requires.t_value_3 in
    let a = c.args in
    let p = c.requires in
    run_stored a.sid (long) a.t.now _ _ _ c.count-count.result c.from_key-i.result c.cardinality-n.result.0 _ (shown a.set) c.count-count.ensures.0 c.from_key-i.ensures.1
    (counted a.set p.t_value.1 _ c.cardinality-n.ensures) refl (room).1 c.move_up.ensures c.fill_pages.ensures c.store16.ensures
    ∙ pages_laid a.sid (long) a.t.now p.t_value.0 p.t_value_2 a.set p.t_value.1 _ c.present_key-key.ensures c.from_key-i.result c.from_key-i.ensures.0
