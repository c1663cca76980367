-- Test by test, in the order of the numbers; the value that the snapshot became says what its bytes spell.
use Rattle.std.proofs.Common.{sym, ◌∙◌}
use Rattle.savecalls.proofs.Forms.{zero_lsn, start_above, no_snapshot, no_set, no_place, all_good}
use Rattle.savecalls.proofs.arguments_number.Goals as goal

pub returns-then-not-has_lsns : goal.returns-then-not-has_lsns
returns-then-not-has_lsns c =
    let a = c.args in
    zero_lsn a.snapshot.now a.pages.now a.place c.snapshot_arg-s.result c.snapshot_arg-s.ensures (sym (c.if-not-has_lsns.true) ∙ c.has_lsns.ensures)

pub returns-then-not-is_ordered : goal.returns-then-not-is_ordered
returns-then-not-is_ordered c =
    let a = c.args in
    start_above a.snapshot.now a.pages.now a.place c.snapshot_arg-s.result c.snapshot_arg-s.ensures (sym (c.if-not-has_lsns.false) ∙ c.has_lsns.ensures) (sym (c.if-not-is_ordered.true) ∙ c.is_ordered.ensures)

pub returns-then-not-snapshot_ok : goal.returns-then-not-snapshot_ok
returns-then-not-snapshot_ok c =
    let a = c.args in
    no_snapshot a.snapshot.now a.pages.now a.place c.snapshot_arg-s.result c.snapshot_arg-s.ensures (sym (c.if-not-has_lsns.false) ∙ c.has_lsns.ensures) (sym (c.if-not-is_ordered.false) ∙ c.is_ordered.ensures) (sym (c.if-not-snapshot_ok.true) ∙ c.snapshot_ok.ensures)

pub returns-then-not-set_ok : goal.returns-then-not-set_ok
returns-then-not-set_ok c =
    let a = c.args in
    no_set a.snapshot.now a.pages.now a.place c.snapshot_arg-s.result c.snapshot_arg-s.ensures (sym (c.if-not-has_lsns.false) ∙ c.has_lsns.ensures) (sym (c.if-not-is_ordered.false) ∙ c.is_ordered.ensures) (sym (c.if-not-snapshot_ok.false) ∙ c.snapshot_ok.ensures) (sym (c.if-not-set_ok.true) ∙ c.set_ok.ensures)

pub returns-then-place-ne-SNAPSHOT : goal.returns-then-place-ne-SNAPSHOT
returns-then-place-ne-SNAPSHOT c =
    let a = c.args in
    no_place a.snapshot.now a.pages.now a.place c.snapshot_arg-s.result c.snapshot_arg-s.ensures (sym (c.if-not-has_lsns.false) ∙ c.has_lsns.ensures) (sym (c.if-not-is_ordered.false) ∙ c.is_ordered.ensures) (sym (c.if-not-snapshot_ok.false) ∙ c.snapshot_ok.ensures) (sym (c.if-not-set_ok.false) ∙ c.set_ok.ensures) c.if-place-ne-SNAPSHOT.true

pub returns : goal.returns
returns c =
    let a = c.args in
    all_good a.snapshot.now a.pages.now a.place c.snapshot_arg-s.result c.snapshot_arg-s.ensures (sym (c.if-not-has_lsns.false) ∙ c.has_lsns.ensures) (sym (c.if-not-is_ordered.false) ∙ c.is_ordered.ensures) (sym (c.if-not-snapshot_ok.false) ∙ c.snapshot_ok.ensures) (sym (c.if-not-set_ok.false) ∙ c.set_ok.ensures) c.if-place-ne-SNAPSHOT.false
