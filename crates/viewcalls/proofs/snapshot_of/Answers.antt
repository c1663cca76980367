-- By the local log's latest commit, whether the watermark is below it, and whether there is a sync.
use Rattle.std.proofs.Common.{ℕ, sym, ap, ◌∙◌}
use mathlib.Core.Option.{Option, none, some}
use Rattle.rules.specs.Snapshots.{below, after}
use Rattle.layout.specs.Tables.{commits_in}
use Rattle.volume.specs.Volumes.{maybe_lsn_says, volume_says}
use Rattle.volume.specs.Snapshots.{laid}
use Rattle.commits.specs.Places.{commit_at}
use Rattle.commits.proofs.LookLaws.{place_at_lem, place_missing}
use Rattle.viewcalls.proofs.Ends.{no_local, all_pushed, local_first}
use Rattle.viewcalls.proofs.snapshot_of.Goals as goal

pub returns-in_default : goal.returns-in_default
returns-in_default c = c.remote_snapshot.ensures ∙ ap laid (no_local (commits_in c.args.commits.now) (volume_says c.args.v) (place_missing c.args.commits.now _ _ c.latest.ensures c.in_default.is))

pub lsn_at-end-requires : goal.lsn_at-end-requires
lsn_at-end-requires c = (c.requires, (place_at_lem c.args.commits.now _ _ c.latest.ensures c.in-Some.i c.in-Some.is).1)

pub returns-then-not-is_below : goal.returns-then-not-is_below
returns-then-not-is_below c = c.remote_snapshot-then-not-is_below.ensures ∙ ap laid (all_pushed (commits_in c.args.commits.now) (volume_says c.args.v) (commit_at c.args.commits.now c.in-Some.i) (place_at_lem c.args.commits.now _ _ c.latest.ensures c.in-Some.i c.in-Some.is).0 c.lsn_at-end.result c.lsn_at-end.ensures (ap (λ (w : Option ℕ). below w c.lsn_at-end.result) (sym c.watermark_of-watermark.ensures) ∙ sym c.is_below.ensures ∙ c.if-not-is_below.true))

pub count_at-count-requires : goal.count_at-count-requires
count_at-count-requires c = (c.requires, (place_at_lem c.args.commits.now _ _ c.latest.ensures c.in-Some.i c.in-Some.is).1)

pub lsn_after-requires : goal.lsn_after-requires
lsn_after-requires c = sym c.is_below.ensures ∙ c.if-not-is_below.false

pub returns-in_default-remote_of : goal.returns-in_default-remote_of
returns-in_default-remote_of c = c.one_range.ensures ∙ ap laid (local_first (commits_in c.args.commits.now) (volume_says c.args.v) (commit_at c.args.commits.now c.in-Some.i) (place_at_lem c.args.commits.now _ _ c.latest.ensures c.in-Some.i c.in-Some.is).0 c.lsn_at-end.result c.lsn_at-end.ensures (ap (λ (w : Option ℕ). below w c.lsn_at-end.result) (sym c.watermark_of-watermark.ensures) ∙ sym c.is_below.ensures ∙ c.if-not-is_below.false) c.lsn_after.result c.count_at-count.result (c.lsn_after.ensures ∙ ap after c.watermark_of-watermark.ensures) c.count_at-count.ensures none (ap maybe_lsn_says (sym c.in_default-remote_of.is) ∙ c.remote_of.ensures))

pub returns : goal.returns
returns c = c.two_ranges.ensures ∙ ap laid (local_first (commits_in c.args.commits.now) (volume_says c.args.v) (commit_at c.args.commits.now c.in-Some.i) (place_at_lem c.args.commits.now _ _ c.latest.ensures c.in-Some.i c.in-Some.is).0 c.lsn_at-end.result c.lsn_at-end.ensures (ap (λ (w : Option ℕ). below w c.lsn_at-end.result) (sym c.watermark_of-watermark.ensures) ∙ sym c.is_below.ensures ∙ c.if-not-is_below.false) c.lsn_after.result c.count_at-count.result (c.lsn_after.ensures ∙ ap after c.watermark_of-watermark.ensures) c.count_at-count.ensures (some c.in-Some-remote_of.synced.0) (ap maybe_lsn_says (sym c.in-Some-remote_of.is) ∙ c.remote_of.ensures))
