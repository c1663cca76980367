-- The invariant: the LSNs of the rows from `from` up to i stand in the list, one after another. Assumes nothing.
use Rattle.std.proofs.Common.{◌≡◌, length}
use Rattle.layout.specs.Codecs.{number}
use Rattle.resultlists.proofs.EntryLaws.{Listed}
use Rattle.listcalls.proofs.RangeLaws.{lsns}
use Rattle.listcalls.proofs.put_lsns.Given as goal

abbrev pub invariant-loop-i : goal.invariant-loop-i
invariant-loop-i l = (length l.list ≡ length l.initial.list) × Listed (number 8) 8 l.initial.list (lsns l.commits l.from l.i) l.list
