-- The hash that stands beside is ZERO. Assumes nothing.
use Rattle.std.proofs.Common.{ap, ◌∙◌}
use Rattle.commit.specs.declared.Presence.TheVariants.{Missing}
use Rattle.commit.specs.Builders.{with_hash}
use Rattle.commit.proofs.Commit.without_commit_hash.Goals as goal

pub returns : goal.returns
returns c = c.hashed.ensures ∙ ap (with_hash c.args.self Missing) c.zero.ensures
