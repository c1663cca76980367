-- The tests are the checks of the rule, in its order; what passes them is the head of the value. Assumes nothing.
use Rattle.std.proofs.Common.{ℕ, List, sym, ap, ◌∙◌}
use mathlib.Core.Option.{Option}
use Rattle.basics.specs.Answers.{done}
use Rattle.rules.specs.Arguments.{snapshot_lsns, snapshot_order}
use Rattle.volume.specs.Snapshots.{head_of}
use Rattle.arguments.specs.declared.Reply.{Reply}
use Rattle.arguments.specs.Replies.{value_or}
use Rattle.arguments.proofs.SnapshotLaws.{arg_says, head_lsns, head_order, head_unformed, head_done}
use Rattle.boundary.proofs.logs.sigatuda_snapshot_head.Goals as goal

pub returns-then-not-has_lsns : goal.returns-then-not-has_lsns
returns-then-not-has_lsns c = ap (λ (r : Reply). (r, (c.args.log.now, c.args.lsn.now))) c.refused.ensures ∙ ap (value_or (λ h. h) (c.args.log.now, c.args.lsn.now)) (head_lsns c.args.snapshot.now (ap snapshot_lsns (sym (arg_says c.args.snapshot.now _ c.snapshot_arg-s.ensures)) ∙ sym c.has_lsns.ensures ∙ c.if-not-has_lsns.true))

pub returns-then-not-is_ordered : goal.returns-then-not-is_ordered
returns-then-not-is_ordered c = ap (λ (r : Reply). (r, (c.args.log.now, c.args.lsn.now))) c.refused-then-not-is_ordered.ensures ∙ ap (value_or (λ h. h) (c.args.log.now, c.args.lsn.now)) (head_order c.args.snapshot.now (ap snapshot_lsns (sym (arg_says c.args.snapshot.now _ c.snapshot_arg-s.ensures)) ∙ sym c.has_lsns.ensures ∙ c.if-not-has_lsns.false) (ap snapshot_order (sym (arg_says c.args.snapshot.now _ c.snapshot_arg-s.ensures)) ∙ sym c.is_ordered.ensures ∙ c.if-not-is_ordered.true))

pub returns-then-not-snapshot_ok : goal.returns-then-not-snapshot_ok
returns-then-not-snapshot_ok c = ap (λ (r : Reply). (r, (c.args.log.now, c.args.lsn.now))) c.refused-then-not-snapshot_ok.ensures ∙ ap (value_or (λ h. h) (c.args.log.now, c.args.lsn.now)) (head_unformed c.args.snapshot.now (ap snapshot_lsns (sym (arg_says c.args.snapshot.now _ c.snapshot_arg-s.ensures)) ∙ sym c.has_lsns.ensures ∙ c.if-not-has_lsns.false) (ap snapshot_order (sym (arg_says c.args.snapshot.now _ c.snapshot_arg-s.ensures)) ∙ sym c.is_ordered.ensures ∙ c.if-not-is_ordered.false) (sym c.snapshot_ok.ensures ∙ c.if-not-snapshot_ok.true))

pub returns : goal.returns
returns c = c.put_head.ensures ∙ ap (λ (h : Option (List ℕ × ℕ)). value_or (λ x. x) (c.args.log.now, c.args.lsn.now) (done h)) (c.head.ensures ∙ ap head_of (arg_says c.args.snapshot.now _ c.snapshot_arg-s.ensures)) ∙ ap (value_or (λ h. h) (c.args.log.now, c.args.lsn.now)) (head_done c.args.snapshot.now (ap snapshot_lsns (sym (arg_says c.args.snapshot.now _ c.snapshot_arg-s.ensures)) ∙ sym c.has_lsns.ensures ∙ c.if-not-has_lsns.false) (ap snapshot_order (sym (arg_says c.args.snapshot.now _ c.snapshot_arg-s.ensures)) ∙ sym c.is_ordered.ensures ∙ c.if-not-is_ordered.false) (sym c.snapshot_ok.ensures ∙ c.if-not-snapshot_ok.false))
