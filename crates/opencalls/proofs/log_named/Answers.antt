-- By the volumes first, then by the latest commit of the log.
use Rattle.std.proofs.Common.{sym, ◌∙◌}
use mathlib.Core.Option.{none}
use Rattle.layout.specs.Tables.{volumes_in, commits_in}
use Rattle.commits.proofs.LookLaws.{place_at_lem, place_missing}
use Rattle.opencalls.proofs.Ends.{named_volume, named_commit}
use Rattle.opencalls.proofs.log_named.Goals as goal

pub any_names-requires : goal.any_names-requires
any_names-requires c = c.requires.0

pub returns-then-any_names : goal.returns-then-any_names
returns-then-any_names c = named_volume (volumes_in c.args.volumes.now) (commits_in c.args.commits.now) c.args.log (sym c.any_names.ensures ∙ c.if-any_names.true)

pub latest-requires : goal.latest-requires
latest-requires c = c.requires.1

pub returns-in-Some : goal.returns-in-Some
returns-in-Some c = named_commit (volumes_in c.args.volumes.now) (commits_in c.args.commits.now) c.args.log (sym c.any_names.ensures ∙ c.if-any_names.false) _ (place_at_lem c.args.commits.now _ _ c.latest.ensures _ c.in-Some.is).0

pub returns-in-None : goal.returns-in-None
returns-in-None c = named_commit (volumes_in c.args.volumes.now) (commits_in c.args.commits.now) c.args.log (sym c.any_names.ensures ∙ c.if-any_names.false) none (place_missing c.args.commits.now _ _ c.latest.ensures c.in-None.is)
