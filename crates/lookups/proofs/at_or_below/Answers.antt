-- Test by test, in the order of the definition.
use mathlib.Core.Path.{sym, ◌∙◌}
use Rattle.lookups.proofs.Records.{checkpoint_log, other_log_lem, same_log}
use mathlib.Core.Path.{ap}
use mathlib.Core.Bool.{not}
use Rattle.lookups.proofs.at_or_below.Goals as goal

pub returns-then-not-same : goal.returns-then-not-same
returns-then-not-same c =
    let a = c.args in
    other_log_lem _ _ _ a.lsn.0 (checkpoint_log a.t.now a.at ∙ sym c.load_id.ensures) _ c.same.ensures (ap not c.if-not-same.true)

pub returns : goal.returns
returns c =
    let a = c.args in
    same_log _ _ _ a.lsn.0 (checkpoint_log a.t.now a.at ∙ sym c.load_id.ensures) _ c.same.ensures (ap not c.if-not-same.false) _ c.checkpoint_lsn.ensures
