-- The range that has the next commit, its run, the run's first row; there is one, since a commit is left.
use Rattle.std.proofs.Common.{ℕ, get_or, sym, subst, arith, rules}
use Rattle.paths.specs.Left.{lowered_at, Meets}
use Rattle.paths.proofs.LeftLaws.{places, next_at, row_in_table, lsn_counts, meets}
use Rattle.paths.proofs.next_commit.Goals as goal

pub offset_bounds-path-at : goal.offset_bounds-path-at
offset_bounds-path-at c =
    let k = places c.args.left _ c.well_formed.1.0 in
    let i = next_at c.args.commits.now c.requires.commits_value.0 c.args.left k c.requires.commits_value.1 c.requires.nonzero c.next_range-at.result c.next_range-at.ensures in
    search (rules, i, c.requires.commits_value)

pub bounds-path-at : goal.bounds-path-at
bounds-path-at c =
    let k = places c.args.left _ c.well_formed.1.0 in
    let i = next_at c.args.commits.now c.requires.commits_value.0 c.args.left k c.requires.commits_value.1 c.requires.nonzero c.next_range-at.result c.next_range-at.ensures in
    omega (arith, i, c.requires.commits_value)

pub lsn_at-requires : goal.lsn_at-requires
lsn_at-requires c = let k = places c.args.left _ c.well_formed.1.0 in (c.requires.commits_value.0, row_in_table c.args.commits.now c.requires.commits_value.0 c.args.left k c.requires.commits_value.1 c.requires.nonzero c.next_range-at.result c.next_range-at.ensures _ _ _ c.range_run-run.ensures)

pub overflow_sub-end : goal.overflow_sub-end
overflow_sub-end c = let k = places c.args.left _ c.well_formed.1.0 in omega (arith, c.lsn_at.ensures, lsn_counts c.args.commits.now c.requires.commits_value.0 c.args.left k c.requires.commits_value.1 c.requires.nonzero c.next_range-at.result c.next_range-at.ensures _ _ _ c.range_run-run.ensures)

pub offset_bounds-path-at-2 : goal.offset_bounds-path-at-2
offset_bounds-path-at-2 c =
    let k = places c.args.left _ c.well_formed.1.0 in
    let i = next_at c.args.commits.now c.requires.commits_value.0 c.args.left k c.requires.commits_value.1 c.requires.nonzero c.next_range-at.result c.next_range-at.ensures in
    search (rules, i, c.requires.commits_value)

pub bounds-path-at-2 : goal.bounds-path-at-2
bounds-path-at-2 c =
    let k = places c.args.left _ c.well_formed.1.0 in
    let i = next_at c.args.commits.now c.requires.commits_value.0 c.args.left k c.requires.commits_value.1 c.requires.nonzero c.next_range-at.result c.next_range-at.ensures in
    omega (arith, i, c.requires.commits_value)

pub returns : goal.returns
returns c =
    let k = places c.args.left _ c.well_formed.1.0 in
    let l = c.args.left in
    subst (λ (n : ℕ). Meets c.args.commits.now l (record { row = c.range_run-run.result.from; left = record { path = lowered_at (get_or l.path c.next_range-at.result _) c.next_range-at.result n l.path; at = c.next_range-at.result; len = l.len } })) (sym c.lsn_at.ensures)
    (meets c.args.commits.now c.requires.commits_value.0 l k c.requires.commits_value.1 c.requires.nonzero c.next_range-at.result c.next_range-at.ensures _ _ _ c.range_run-run.ensures)
