-- The entries put are those of the frames before j, as far as there are places, and all of them are counted (`Filling`).
use Rattle.std.proofs.Common.{◌+◌, ◌≤◌}
use Rattle.pageset.specs.Sets.{shown}
use Rattle.layout.specs.Tables.{presence_in}
use Rattle.missingcalls.specs.Cursors.{frames_at, frames_left}
use Rattle.missingcalls.proofs.PutLaws.{Filling}
use Rattle.missingcalls.proofs.put_frames.Given as goal

abbrev pub invariant-loop-j : goal.invariant-loop-j
invariant-loop-j l = (l.to ≤ l.from + l.j) × Filling l.initial.list l.from (frames_left (presence_in l.presence) (shown l.gift) (frames_at l.commits l.i) 0) l.to l.list (frames_left (presence_in l.presence) (shown l.gift) (frames_at l.commits l.i) l.j)
