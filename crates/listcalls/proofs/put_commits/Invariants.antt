-- The invariant: the k commits of the first i ranges stand in the list, one after another. Assumes nothing.
use Rattle.std.proofs.Common.{◌≡◌, length}
use Rattle.layout.specs.Records.{commit_bytes}
use Rattle.resultlists.proofs.EntryLaws.{Listed}
use Rattle.listcalls.specs.Runs.{first_commits}
use Rattle.listcalls.proofs.put_commits.Given as goal

abbrev pub invariant-loop-i : goal.invariant-loop-i
invariant-loop-i l = (l.k ≡ length (first_commits l.commits l.i l.path)) × (length l.list ≡ length l.initial.list) × Listed commit_bytes 722 l.initial.list (first_commits l.commits l.i l.path) l.list
