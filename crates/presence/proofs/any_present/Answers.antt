-- The record at the place of the highest page is of the segment, or none is.
use Rattle.std.proofs.Common.{◌≡◌, length, arith, rules}
use Rattle.table.proofs.Checks.{well_two}
use Rattle.rows.proofs.Rows.{formed_well}
use Rattle.rows.proofs.Checks.{row_in}
use Rattle.rows.proofs.Tables.{presence}
use Rattle.presence.proofs.PresentLaws.{none_there, same_there_lem}
use Rattle.presence.proofs.any_present.Goals as goal

pub from_key-i-requires : goal.from_key-i-requires
from_key-i-requires c = record { stride_nonzero = search rules; t_value = formed_well presence c.args.t.now c.requires }

pub count-requires : goal.count-requires
count-requires c = well_two 21 21 c.args.t.now (formed_well presence c.args.t.now c.requires)

pub returns-then-i-count : goal.returns-then-i-count
returns-then-i-count c =
    let long : length c.args.sid ≡ 16 = search rules in
    none_there c.args.t.now c.requires _ c.args.sid (long) c.present_key-key.ensures c.from_key-i.result c.from_key-i.ensures.0 (omega (arith, c.count.ensures.0, c.if-i-count.true))

pub overflow_mul-i : goal.overflow_mul-i
overflow_mul-i c = omega (arith, c.from_key-i.ensures.1, c.count.ensures.0, c.count.ensures.1)

pub overflow_add-i : goal.overflow_add-i
overflow_add-i c = omega (arith, c.from_key-i.ensures.1, c.count.ensures.0, c.count.ensures.1)

pub overflow_add-i-2 : goal.overflow_add-i-2
overflow_add-i-2 c = omega (arith, c.from_key-i.ensures.1, c.count.ensures.0, c.count.ensures.1)

pub load_id-requires : goal.load_id-requires
load_id-requires c = omega (arith, row_in presence c.args.t.now c.requires c.from_key-i.result (omega (arith, c.from_key-i.ensures.1, c.count.ensures.0, c.if-i-count.false)))

pub returns : goal.returns
returns c =
    let long : length c.args.sid ≡ 16 = search rules in
    same_there_lem c.args.t.now c.requires _ c.args.sid (long) c.present_key-key.ensures c.from_key-i.result c.from_key-i.ensures.0 (omega (arith, c.from_key-i.ensures.1, c.count.ensures.0, c.if-i-count.false)) _ _ c.load_id.ensures c.same.ensures
