-- Those missing from `from` on are those from j on.
use Rattle.std.proofs.Common.{◌≡◌}
use Rattle.pageset.specs.Sets.{shown}
use Rattle.layout.specs.Tables.{presence_in}
use Rattle.missingcalls.specs.Cursors.{frames_at, frames_left}
use Rattle.missingcalls.proofs.next_frame.Given as goal

abbrev pub invariant-loop-j : goal.invariant-loop-j
invariant-loop-j l = frames_left (presence_in l.presence) (shown l.gift) (frames_at l.commits l.i) l.from ≡ frames_left (presence_in l.presence) (shown l.gift) (frames_at l.commits l.i) l.j
