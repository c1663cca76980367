-- The invariant: the whole path answers what its ranges from i on answer.
use Rattle.std.proofs.Common.{◌≡◌}
use Rattle.layout.specs.Tables.{commits_in, index_in}
use Rattle.searchcalls.proofs.PathLaws.{from}
use Rattle.searchcalls.proofs.search_path.Given as goal

abbrev pub invariant-loop-i : goal.invariant-loop-i
invariant-loop-i l = from (commits_in l.commits) (index_in l.index) l.page.0 l.path l.len 0 ≡ from (commits_in l.commits) (index_in l.index) l.page.0 l.path l.len l.i
