-- The segment that stands beside is zero. Assumes nothing.
use Rattle.std.proofs.Common.{ap, ◌∙◌}
use Rattle.commit.specs.declared.Presence.TheVariants.{Missing}
use Rattle.commit.specs.Builders.{with_segment}
use Rattle.commit.proofs.Commit.without_segment_idx.Goals as goal

pub returns : goal.returns
returns c = c.segmented.ensures ∙ ap (with_segment c.args.self Missing) c.zero.ensures
