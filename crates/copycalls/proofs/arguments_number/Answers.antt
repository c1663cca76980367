-- Test by test, in the order of the numbers; the value that the snapshot became says what its bytes spell.
use Rattle.std.proofs.Common.{sym, ◌∙◌}
use Rattle.copycalls.proofs.Asks.{zero_lsn, start_above, no_snapshot, no_place, all_good}
use Rattle.copycalls.proofs.arguments_number.Goals as goal

pub returns-then-not-has_lsns : goal.returns-then-not-has_lsns
returns-then-not-has_lsns c = zero_lsn c.args.snapshot.now c.args.place c.snapshot_arg-s.result c.snapshot_arg-s.ensures (sym (c.if-not-has_lsns.true) ∙ c.has_lsns.ensures)

pub returns-then-not-is_ordered : goal.returns-then-not-is_ordered
returns-then-not-is_ordered c = start_above c.args.snapshot.now c.args.place c.snapshot_arg-s.result c.snapshot_arg-s.ensures (sym (c.if-not-has_lsns.false) ∙ c.has_lsns.ensures) (sym (c.if-not-is_ordered.true) ∙ c.is_ordered.ensures)

pub returns-then-not-snapshot_ok : goal.returns-then-not-snapshot_ok
returns-then-not-snapshot_ok c = no_snapshot c.args.snapshot.now c.args.place c.snapshot_arg-s.result c.snapshot_arg-s.ensures (sym (c.if-not-has_lsns.false) ∙ c.has_lsns.ensures) (sym (c.if-not-is_ordered.false) ∙ c.is_ordered.ensures) (sym (c.if-not-snapshot_ok.true) ∙ c.snapshot_ok.ensures)

pub returns-then-place-ne-VOLUME : goal.returns-then-place-ne-VOLUME
returns-then-place-ne-VOLUME c = no_place c.args.snapshot.now c.args.place c.snapshot_arg-s.result c.snapshot_arg-s.ensures (sym (c.if-not-has_lsns.false) ∙ c.has_lsns.ensures) (sym (c.if-not-is_ordered.false) ∙ c.is_ordered.ensures) (sym (c.if-not-snapshot_ok.false) ∙ c.snapshot_ok.ensures) c.if-place-ne-VOLUME.true

pub returns : goal.returns
returns c = all_good c.args.snapshot.now c.args.place c.snapshot_arg-s.result c.snapshot_arg-s.ensures (sym (c.if-not-has_lsns.false) ∙ c.has_lsns.ensures) (sym (c.if-not-is_ordered.false) ∙ c.is_ordered.ensures) (sym (c.if-not-snapshot_ok.false) ∙ c.snapshot_ok.ensures) c.if-place-ne-VOLUME.false
