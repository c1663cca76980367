-- The place of the key has the entry, or there is none.
use borrow.Author.Rules.{rules}
use Rattle.std.specs.Prelude.{◌≡◌, ◌^◌, ◌<◌, length}
use native.Mathlib.Omega.{arith}
use mir.Val.{Fits}
use mir.Syntax.{w32, w64}
use Rattle.table.specs.Table.{count_of}
use Rattle.table.proofs.Checks.{well_two}
use Rattle.rules.specs.Records.{Entry}
use Rattle.rows.proofs.Rows.{formed_well}
use Rattle.rows.proofs.Finds.{row_nth, row_end}
use Rattle.rows.proofs.Checks.{row_in}
use Rattle.rows.proofs.Tables.{index}
use Rattle.lookups.proofs.Places.{found_none, found_not, found_it, entry_place}
use Rattle.rules.specs.Search.{entry_in}
use Rattle.volume.specs.Snapshots.{range_says}
use Rattle.lookups.proofs.entry_in.Goals as goal

pub from_key-i-requires : goal.from_key-i-requires
from_key-i-requires c = record { stride_nonzero = search rules; t_value = formed_well index c.args.t.now c.requires }

pub count-requires : goal.count-requires
count-requires c = well_two 29 29 c.args.t.now (formed_well index c.args.t.now c.requires)

pub returns-then-i-count : goal.returns-then-i-count
returns-then-i-count c =
    let long : length c.args.range.log ≡ 16 = search rules in
    let small : c.args.range.end.0 < 256 ^ 8 = let f : Fits w64 c.args.range.end.0 = search rules in f.fits in
    let page_small : c.args.page.0 < 256 ^ 4 = let f : Fits w32 c.args.page.0 = search rules in f.fits in
    found_none (λ (k : Entry). k.lsn) (entry_in (range_says c.args.range) c.args.page.0) _ _ (entry_place c.args.t.now c.requires (range_says c.args.range) c.args.page.0 (long) (page_small) (small) _ c.entry_key-key.ensures c.from_key-i.result c.from_key-i.ensures.0)
    (row_end index c.args.t.now c.from_key-i.result (omega (arith, c.count.ensures.0, c.if-i-count.true)))

pub overflow_mul-at : goal.overflow_mul-at
overflow_mul-at c = omega (arith, c.from_key-i.ensures.1, c.count.ensures.0, c.count.ensures.1)

pub overflow_add-at : goal.overflow_add-at
overflow_add-at c = omega (arith, c.from_key-i.ensures.1, c.count.ensures.0, c.count.ensures.1)

pub in_range-requires : goal.in_range-requires
in_range-requires c = row_in index c.args.t.now c.requires c.from_key-i.result (omega (arith, c.from_key-i.ensures.1, c.count.ensures.0, c.if-i-count.false))

pub returns-then-not-in_range : goal.returns-then-not-in_range
returns-then-not-in_range c =
    let long : length c.args.range.log ≡ 16 = search rules in
    let small : c.args.range.end.0 < 256 ^ 8 = let f : Fits w64 c.args.range.end.0 = search rules in f.fits in
    let page_small : c.args.page.0 < 256 ^ 4 = let f : Fits w32 c.args.page.0 = search rules in f.fits in
    let l : c.from_key-i.result < count_of c.args.t.now = omega (arith, c.from_key-i.ensures.1, c.count.ensures.0, c.if-i-count.false) in
    found_not (λ (k : Entry). k.lsn) (entry_in (range_says c.args.range) c.args.page.0) _ _ (entry_place c.args.t.now c.requires (range_says c.args.range) c.args.page.0 (long) (page_small) (small) _ c.entry_key-key.ensures c.from_key-i.result c.from_key-i.ensures.0) _
    (row_nth index c.args.t.now c.from_key-i.result l) _ c.in_range.ensures (c.if-not-in_range.true)

pub entry_lsn-requires : goal.entry_lsn-requires
entry_lsn-requires c = row_in index c.args.t.now c.requires c.from_key-i.result (omega (arith, c.from_key-i.ensures.1, c.count.ensures.0, c.if-i-count.false))

pub returns : goal.returns
returns c =
    let long : length c.args.range.log ≡ 16 = search rules in
    let small : c.args.range.end.0 < 256 ^ 8 = let f : Fits w64 c.args.range.end.0 = search rules in f.fits in
    let page_small : c.args.page.0 < 256 ^ 4 = let f : Fits w32 c.args.page.0 = search rules in f.fits in
    let l : c.from_key-i.result < count_of c.args.t.now = omega (arith, c.from_key-i.ensures.1, c.count.ensures.0, c.if-i-count.false) in
    found_it (λ (k : Entry). k.lsn) (entry_in (range_says c.args.range) c.args.page.0) _ _ (entry_place c.args.t.now c.requires (range_says c.args.range) c.args.page.0 (long) (page_small) (small) _ c.entry_key-key.ensures c.from_key-i.result c.from_key-i.ensures.0) _
    (row_nth index c.args.t.now c.from_key-i.result l) _ c.in_range.ensures (c.if-not-in_range.false) _ c.entry_lsn.ensures
