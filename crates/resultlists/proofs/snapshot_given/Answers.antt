-- The value that the bytes became says what they spell, so its tests are those of the definition, in its order. Assumes nothing.
use Rattle.std.proofs.Common.{true, false, sym, ap, ◌∙◌}
use Rattle.rules.specs.Arguments.{snapshot_lsns, snapshot_order}
use Rattle.arguments.proofs.SnapshotLaws.{arg_says}
use Rattle.resultlists.proofs.SnapshotLaws.{code_1, code_2, code_formed}
use Rattle.resultlists.proofs.snapshot_given.Goals as goal

pub returns-then-not-has_lsns : goal.returns-then-not-has_lsns
returns-then-not-has_lsns c =
    let says = arg_says c.args.b.now c.snapshot_arg-s.result c.snapshot_arg-s.ensures in
    code_1 c.args.b.now (ap snapshot_lsns (sym says) ∙ sym c.has_lsns.ensures ∙ c.if-not-has_lsns.true)

pub returns-then-not-is_ordered : goal.returns-then-not-is_ordered
returns-then-not-is_ordered c =
    let says = arg_says c.args.b.now c.snapshot_arg-s.result c.snapshot_arg-s.ensures in
    code_2 c.args.b.now (ap snapshot_lsns (sym says) ∙ sym c.has_lsns.ensures ∙ c.if-not-has_lsns.false) (ap snapshot_order (sym says) ∙ sym c.is_ordered.ensures ∙ c.if-not-is_ordered.true)

pub returns-then-not-snapshot_ok : goal.returns-then-not-snapshot_ok
returns-then-not-snapshot_ok c =
    let says = arg_says c.args.b.now c.snapshot_arg-s.result c.snapshot_arg-s.ensures in
    code_formed c.args.b.now (ap snapshot_lsns (sym says) ∙ sym c.has_lsns.ensures ∙ c.if-not-has_lsns.false) (ap snapshot_order (sym says) ∙ sym c.is_ordered.ensures ∙ c.if-not-is_ordered.false) false (sym c.snapshot_ok.ensures ∙ c.if-not-snapshot_ok.true)

pub returns : goal.returns
returns c =
    let says = arg_says c.args.b.now c.snapshot_arg-s.result c.snapshot_arg-s.ensures in
    code_formed c.args.b.now (ap snapshot_lsns (sym says) ∙ sym c.has_lsns.ensures ∙ c.if-not-has_lsns.false) (ap snapshot_order (sym says) ∙ sym c.is_ordered.ensures ∙ c.if-not-is_ordered.false) true (sym c.snapshot_ok.ensures ∙ c.if-not-snapshot_ok.false)
