-- By the log that the range names.
use Rattle.std.proofs.Common.{sym, ◌∙◌}
use Rattle.rules.proofs.Facts.{id_is}
use mathlib.Core.Option.{none}
use Rattle.volume.specs.Volumes.{volume_says}
use Rattle.volume.specs.Snapshots.{range_says}
use Rattle.viewcalls.proofs.CheckLaws.{local_not_remote, by_remote}
use Rattle.viewcalls.proofs.is_remote.Goals as goal

pub returns-then-same : goal.returns-then-same
returns-then-same c = local_not_remote (volume_says c.args.v) none (range_says c.args.range) (sym (id_is _ _) ∙ sym c.same.ensures ∙ c.if-same.true)

pub returns : goal.returns
returns c = c.same-2.ensures ∙ id_is _ _ ∙ by_remote (volume_says c.args.v) none (range_says c.args.range) (sym (id_is _ _) ∙ sym c.same.ensures ∙ c.if-same.false)
