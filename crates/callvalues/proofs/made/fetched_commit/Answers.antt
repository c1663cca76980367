-- The builders make the commit, laid out.
use Rattle.std.proofs.Common.{◌∙◌, ap₂}
use Rattle.commit.specs.Builders.{with_segment}
use Rattle.commit.specs.declared.Presence.TheVariants.{Given}
use Rattle.callvalues.proofs.Fetched.{made}
use Rattle.callvalues.proofs.made.fetched_commit.Goals as goal

pub returns : goal.returns
returns c = let a = c.args in made a.log a.lsn a.count a.sid a.set c.requires _ (c.with_segment_idx.ensures ∙ ap₂ (λ x y. with_segment x Given y) c.new.ensures c.new-2.ensures)
