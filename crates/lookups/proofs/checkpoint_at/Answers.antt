-- The place of the key has the checkpoint, or there is none.
use borrow.Author.Rules.{rules}
use Rattle.std.specs.Prelude.{◌≡◌, ◌^◌, ◌<◌, length}
use native.Mathlib.Omega.{arith}
use mir.Val.{Fits}
use mir.Syntax.{w64}
use Rattle.table.specs.Table.{count_of}
use Rattle.table.proofs.Checks.{well_two}
use Rattle.rules.specs.Records.{Checkpoint}
use Rattle.rows.proofs.Rows.{formed_well}
use Rattle.rows.proofs.Finds.{row_nth, row_end}
use Rattle.rows.proofs.Checks.{row_in}
use Rattle.rows.proofs.Tables.{checkpoints}
use Rattle.lookups.proofs.Places.{found_none, found_not, found_it, checkpoint_place}
use Rattle.lookups.specs.Found.{at_or_below}
use Rattle.lookups.proofs.checkpoint_at.Goals as goal

pub from_key-i-requires : goal.from_key-i-requires
from_key-i-requires c = record { stride_nonzero = search rules; t_value = formed_well checkpoints c.args.t.now c.requires }

pub count-requires : goal.count-requires
count-requires c = well_two 25 25 c.args.t.now (formed_well checkpoints c.args.t.now c.requires)

pub returns-then-i-count : goal.returns-then-i-count
returns-then-i-count c =
    let long : length c.args.log ≡ 16 = search rules in
    let small : c.args.lsn.0 < 256 ^ 8 = let f : Fits w64 c.args.lsn.0 = search rules in f.fits in
    found_none (λ (k : Checkpoint). k.lsn) (at_or_below c.args.log c.args.lsn.0) _ _ (checkpoint_place c.args.t.now c.requires c.args.log c.args.lsn.0 (long) (small) _ c.log_key-key.ensures c.from_key-i.result c.from_key-i.ensures.0)
    (row_end checkpoints c.args.t.now c.from_key-i.result (omega (arith, c.count.ensures.0, c.if-i-count.true)))

pub overflow_mul-at : goal.overflow_mul-at
overflow_mul-at c = omega (arith, c.from_key-i.ensures.1, c.count.ensures.0, c.count.ensures.1)

pub overflow_add-at : goal.overflow_add-at
overflow_add-at c = omega (arith, c.from_key-i.ensures.1, c.count.ensures.0, c.count.ensures.1)

pub at_or_below-requires : goal.at_or_below-requires
at_or_below-requires c = row_in checkpoints c.args.t.now c.requires c.from_key-i.result (omega (arith, c.from_key-i.ensures.1, c.count.ensures.0, c.if-i-count.false))

pub returns-then-not-at_or_below : goal.returns-then-not-at_or_below
returns-then-not-at_or_below c =
    let long : length c.args.log ≡ 16 = search rules in
    let small : c.args.lsn.0 < 256 ^ 8 = let f : Fits w64 c.args.lsn.0 = search rules in f.fits in
    let l : c.from_key-i.result < count_of c.args.t.now = omega (arith, c.from_key-i.ensures.1, c.count.ensures.0, c.if-i-count.false) in
    found_not (λ (k : Checkpoint). k.lsn) (at_or_below c.args.log c.args.lsn.0) _ _ (checkpoint_place c.args.t.now c.requires c.args.log c.args.lsn.0 (long) (small) _ c.log_key-key.ensures c.from_key-i.result c.from_key-i.ensures.0) _
    (row_nth checkpoints c.args.t.now c.from_key-i.result l) _ c.at_or_below.ensures (c.if-not-at_or_below.true)

pub checkpoint_lsn-requires : goal.checkpoint_lsn-requires
checkpoint_lsn-requires c = row_in checkpoints c.args.t.now c.requires c.from_key-i.result (omega (arith, c.from_key-i.ensures.1, c.count.ensures.0, c.if-i-count.false))

pub returns : goal.returns
returns c =
    let long : length c.args.log ≡ 16 = search rules in
    let small : c.args.lsn.0 < 256 ^ 8 = let f : Fits w64 c.args.lsn.0 = search rules in f.fits in
    let l : c.from_key-i.result < count_of c.args.t.now = omega (arith, c.from_key-i.ensures.1, c.count.ensures.0, c.if-i-count.false) in
    found_it (λ (k : Checkpoint). k.lsn) (at_or_below c.args.log c.args.lsn.0) _ _ (checkpoint_place c.args.t.now c.requires c.args.log c.args.lsn.0 (long) (small) _ c.log_key-key.ensures c.from_key-i.result c.from_key-i.ensures.0) _
    (row_nth checkpoints c.args.t.now c.from_key-i.result l) _ c.at_or_below.ensures (c.if-not-at_or_below.false) _ c.checkpoint_lsn.ensures
