-- The tests are those of the definition, in its order; what passes them is the search over the snapshot's ranges, put into the lent place.
use Rattle.std.proofs.Common.{List, sym, ap, ◌∙◌}
use Rattle.rules.specs.Records.{Range}
use Rattle.rules.specs.Search.{search_path}
use Rattle.layout.specs.Records.{commit_bytes}
use Rattle.layout.specs.Tables.{commits_in, index_in}
use Rattle.arguments.specs.Replies.{value_or}
use Rattle.arguments.proofs.SnapshotLaws.{arg_few}
use Rattle.searchcalls.proofs.CallLaws.{no_commits, no_index, zero_lsn, zero_page, start_above, no_form, no_place, searched, arg_lsns, arg_order, arg_path}
use Rattle.searchcalls.proofs.search.Goals as goal

pub returns-then-not-commits_formed : goal.returns-then-not-commits_formed
returns-then-not-commits_formed c = rw c.refused.ensures (ap (value_or commit_bytes.spell c.args.out.now) (sym (no_commits c.args.commits.now c.args.index.now c.args.snapshot.now c.args.page.0 c.args.out.now (sym c.commits_formed.ensures ∙ c.if-not-commits_formed.true))))

pub returns-then-not-index_formed : goal.returns-then-not-index_formed
returns-then-not-index_formed c = rw c.refused-then-not-index_formed.ensures (ap (value_or commit_bytes.spell c.args.out.now) (sym (no_index c.args.commits.now c.args.index.now c.args.snapshot.now c.args.page.0 c.args.out.now (sym c.index_formed.ensures ∙ c.if-not-index_formed.true))))

pub returns-then-not-has_lsns : goal.returns-then-not-has_lsns
returns-then-not-has_lsns c = rw c.refused-then-not-has_lsns.ensures (ap (value_or commit_bytes.spell c.args.out.now) (sym (zero_lsn c.args.commits.now c.args.index.now c.args.snapshot.now c.args.page.0 c.args.out.now (sym c.commits_formed.ensures ∙ c.if-not-commits_formed.false) (sym c.index_formed.ensures ∙ c.if-not-index_formed.false) (arg_lsns c.args.snapshot.now _ c.snapshot_arg-s.ensures _ c.has_lsns.ensures ∙ c.if-not-has_lsns.true))))

pub returns-then-page-eq0 : goal.returns-then-page-eq0
returns-then-page-eq0 c = rw c.refused-then-page-eq0.ensures (ap (value_or commit_bytes.spell c.args.out.now) (sym (zero_page c.args.commits.now c.args.index.now c.args.snapshot.now c.args.page.0 c.args.out.now (sym c.commits_formed.ensures ∙ c.if-not-commits_formed.false) (sym c.index_formed.ensures ∙ c.if-not-index_formed.false) (arg_lsns c.args.snapshot.now _ c.snapshot_arg-s.ensures _ c.has_lsns.ensures ∙ c.if-not-has_lsns.false) c.if-page-eq0.true)))

pub returns-then-not-is_ordered : goal.returns-then-not-is_ordered
returns-then-not-is_ordered c = rw c.refused-then-not-is_ordered.ensures (ap (value_or commit_bytes.spell c.args.out.now) (sym (start_above c.args.commits.now c.args.index.now c.args.snapshot.now c.args.page.0 c.args.out.now (sym c.commits_formed.ensures ∙ c.if-not-commits_formed.false) (sym c.index_formed.ensures ∙ c.if-not-index_formed.false) (arg_lsns c.args.snapshot.now _ c.snapshot_arg-s.ensures _ c.has_lsns.ensures ∙ c.if-not-has_lsns.false) c.if-page-eq0.false (arg_order c.args.snapshot.now _ c.snapshot_arg-s.ensures _ c.is_ordered.ensures ∙ c.if-not-is_ordered.true))))

pub returns-then-not-snapshot_ok : goal.returns-then-not-snapshot_ok
returns-then-not-snapshot_ok c = rw c.refused-then-not-snapshot_ok.ensures (ap (value_or commit_bytes.spell c.args.out.now) (sym (no_form c.args.commits.now c.args.index.now c.args.snapshot.now c.args.page.0 c.args.out.now (sym c.commits_formed.ensures ∙ c.if-not-commits_formed.false) (sym c.index_formed.ensures ∙ c.if-not-index_formed.false) (arg_lsns c.args.snapshot.now _ c.snapshot_arg-s.ensures _ c.has_lsns.ensures ∙ c.if-not-has_lsns.false) c.if-page-eq0.false (arg_order c.args.snapshot.now _ c.snapshot_arg-s.ensures _ c.is_ordered.ensures ∙ c.if-not-is_ordered.false) (sym c.snapshot_ok.ensures ∙ c.if-not-snapshot_ok.true))))

pub returns-then-out-ne-COMMIT : goal.returns-then-out-ne-COMMIT
returns-then-out-ne-COMMIT c = rw c.refused-then-out-ne-COMMIT.ensures (ap (value_or commit_bytes.spell c.args.out.now) (sym (no_place c.args.commits.now c.args.index.now c.args.snapshot.now c.args.page.0 c.args.out.now (sym c.commits_formed.ensures ∙ c.if-not-commits_formed.false) (sym c.index_formed.ensures ∙ c.if-not-index_formed.false) (arg_lsns c.args.snapshot.now _ c.snapshot_arg-s.ensures _ c.has_lsns.ensures ∙ c.if-not-has_lsns.false) c.if-page-eq0.false (arg_order c.args.snapshot.now _ c.snapshot_arg-s.ensures _ c.is_ordered.ensures ∙ c.if-not-is_ordered.false) (sym c.snapshot_ok.ensures ∙ c.if-not-snapshot_ok.false) c.if-out-ne-COMMIT.true)))

pub search_path-requires : goal.search_path-requires
search_path-requires c = ((sym c.commits_formed.ensures ∙ c.if-not-commits_formed.false), (sym c.index_formed.ensures ∙ c.if-not-index_formed.false), arg_few c.args.snapshot.now _ c.snapshot_arg-s.ensures)

pub put_hit-requires : goal.put_hit-requires
put_hit-requires c = ((sym c.commits_formed.ensures ∙ c.if-not-commits_formed.false), c.search_path.ensures.inside, c.if-out-ne-COMMIT.false)

pub returns : goal.returns
returns c =
    c.put_hit.ensures
    ∙ ap (value_or commit_bytes.spell c.args.out.now) (c.search_path.ensures.says ∙ ap (λ (path : List Range). search_path (commits_in c.args.commits.now) (index_in c.args.index.now) c.args.page.0 path) (arg_path c.args.snapshot.now _ c.snapshot_arg-s.ensures) ∙ sym (searched c.args.commits.now c.args.index.now c.args.snapshot.now c.args.page.0 c.args.out.now (sym c.commits_formed.ensures ∙ c.if-not-commits_formed.false) (sym c.index_formed.ensures ∙ c.if-not-index_formed.false) (arg_lsns c.args.snapshot.now _ c.snapshot_arg-s.ensures _ c.has_lsns.ensures ∙ c.if-not-has_lsns.false) c.if-page-eq0.false (arg_order c.args.snapshot.now _ c.snapshot_arg-s.ensures _ c.is_ordered.ensures ∙ c.if-not-is_ordered.false) (sym c.snapshot_ok.ensures ∙ c.if-not-snapshot_ok.false) c.if-out-ne-COMMIT.false))
