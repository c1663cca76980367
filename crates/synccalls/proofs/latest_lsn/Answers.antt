-- By whether the lookup found a commit.
use Rattle.std.proofs.Common.{ℕ, ap, ◌∙◌}
use mathlib.Core.Option.{some, map}
use Rattle.rules.specs.Records.{Commit}
use Rattle.commits.proofs.LookLaws.{place_at_lem, place_missing}
use Rattle.synccalls.proofs.latest_lsn.Goals as goal

pub returns-in_default : goal.returns-in_default
returns-in_default c = ap (map (λ (x : Commit). x.lsn)) (place_missing c.args.commits.now _ _ c.latest.ensures c.in_default.is)

pub lsn_at-requires : goal.lsn_at-requires
lsn_at-requires c = (c.requires, (place_at_lem c.args.commits.now _ _ c.latest.ensures c.in-Some.i c.in-Some.is).1)

pub returns : goal.returns
returns c = ap (λ (n : ℕ). some n) c.lsn_at.ensures ∙ ap (map (λ (x : Commit). x.lsn)) (place_at_lem c.args.commits.now _ _ c.latest.ensures c.in-Some.i c.in-Some.is).0
