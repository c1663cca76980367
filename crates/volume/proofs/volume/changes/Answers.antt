-- The two tests for LSN 0 are the rule's check, and the rest is the rule without it. Assumes nothing.
use Rattle.std.proofs.Common.{sym, ap, ◌∙◌}
use mathlib.Core.Option.{none}
use Rattle.volume.specs.Volumes.{maybe_lsn_says}
use Rattle.volume.proofs.ChangeLaws.{base_zero, head_zero, past_zero}
use Rattle.volume.proofs.volume.changes.Goals as goal

pub returns-then-not-counts_or_missing : goal.returns-then-not-counts_or_missing
returns-then-not-counts_or_missing c = base_zero _ _ (sym c.counts_or_missing.ensures ∙ c.if-not-counts_or_missing.true)

pub returns-then-not-counts_or_missing-2 : goal.returns-then-not-counts_or_missing-2
returns-then-not-counts_or_missing-2 c =
    head_zero
    _
    _
    (sym c.counts_or_missing.ensures ∙ c.if-not-counts_or_missing.false)
    (sym c.counts_or_missing-2.ensures ∙ c.if-not-counts_or_missing-2.true)

pub returns-in-None : goal.returns-in-None
returns-in-None c =
    past_zero
    _
    _
    _
    none
    (ap maybe_lsn_says c.in-None.is)
    (sym c.counts_or_missing.ensures ∙ c.if-not-counts_or_missing.false)
    (sym c.counts_or_missing-2.ensures ∙ c.if-not-counts_or_missing-2.false)
    c.all_changes.ensures

pub returns-in-Some : goal.returns-in-Some
returns-in-Some c =
    past_zero
    _
    _
    _
    _
    (ap maybe_lsn_says c.in-Some.is)
    (sym c.counts_or_missing.ensures ∙ c.if-not-counts_or_missing.false)
    (sym c.counts_or_missing-2.ensures ∙ c.if-not-counts_or_missing-2.false)
    c.changes_above.ensures
