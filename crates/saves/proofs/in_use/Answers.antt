-- A present page of the segment decides, and else the commits do.
use Rattle.std.proofs.Common.{sym, ◌∙◌}
use Rattle.layout.specs.Tables.{commits_in, presence_in}
use Rattle.saves.proofs.Asks.{present_used, commits_decide}
use Rattle.saves.proofs.in_use.Goals as goal

pub returns-then-any_present : goal.returns-then-any_present
returns-then-any_present c = present_used (commits_in c.args.commits.now) (presence_in c.args.presence.now) c.args.sid (sym c.if-any_present.true ∙ c.any_present.ensures)

pub returns : goal.returns
returns c = commits_decide (commits_in c.args.commits.now) (presence_in c.args.presence.now) c.args.sid (sym c.if-any_present.false ∙ c.any_present.ensures) _ c.any_commit.ensures
