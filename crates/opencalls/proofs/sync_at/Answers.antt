-- By the place of the log's latest commit.
use Rattle.std.proofs.Common.{ℕ, ap, ◌∙◌}
use mathlib.Core.Option.{Option, some, map}
use Rattle.rules.specs.Records.{Commit}
use Rattle.rules.specs.Open.{sync_at}
use Rattle.commits.proofs.LookLaws.{place_at_lem, place_missing}
use Rattle.opencalls.proofs.sync_at.Goals as goal

pub returns-in_default : goal.returns-in_default
returns-in_default c = ap (λ (o : Option Commit). sync_at (map (λ (c : Commit). c.lsn) o)) (place_missing c.args.commits.now _ _ c.latest.ensures c.in_default.is)

pub lsn_at-requires : goal.lsn_at-requires
lsn_at-requires c = (c.requires, (place_at_lem c.args.commits.now _ _ c.latest.ensures c.in-Some.i c.in-Some.is).1)

pub returns : goal.returns
returns c = ap (λ (n : ℕ). sync_at (some n)) c.lsn_at.ensures ∙ ap (λ (o : Option Commit). sync_at (map (λ (c : Commit). c.lsn) o)) (place_at_lem c.args.commits.now _ _ c.latest.ensures c.in-Some.i c.in-Some.is).0
