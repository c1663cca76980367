-- By the log that the range names.
use Rattle.std.proofs.Common.{ℕ, sym, ap, ◌∙◌}
use mathlib.Core.Option.{Option}
use Rattle.rules.specs.Snapshots.{is_at}
use Rattle.rules.proofs.Facts.{id_is}
use Rattle.volume.specs.Volumes.{maybe_lsn_says, volume_says}
use Rattle.volume.specs.Snapshots.{range_says}
use Rattle.viewcalls.proofs.CheckLaws.{local_end, no_end, remote_end}
use Rattle.viewcalls.proofs.range_latest.Goals as goal

pub returns-then-same : goal.returns-then-same
returns-then-same c = c.is_at.ensures ∙ local_end (volume_says c.args.v) (maybe_lsn_says c.args.head) (range_says c.args.range) (sym (id_is _ _) ∙ sym c.same.ensures ∙ c.if-same.true)

pub returns-then-not-same : goal.returns-then-not-same
returns-then-not-same c = no_end (volume_says c.args.v) (maybe_lsn_says c.args.head) (range_says c.args.range) (sym (id_is _ _) ∙ sym c.same.ensures ∙ c.if-same.false) (sym (id_is _ _) ∙ sym c.same-2.ensures ∙ c.if-not-same.true)

pub returns : goal.returns
returns c = c.is_at-2.ensures ∙ ap (λ (o : Option ℕ). is_at o c.args.range.end.0) c.remote_of.ensures ∙ remote_end (volume_says c.args.v) (maybe_lsn_says c.args.head) (range_says c.args.range) (sym (id_is _ _) ∙ sym c.same.ensures ∙ c.if-same.false) (sym (id_is _ _) ∙ sym c.same-2.ensures ∙ c.if-not-same.false)
