-- All of the piece where there is room for it, else as much of it as there is room: both are the piece cut to the room.
use Rattle.std.proofs.Common.{◌-◌, arith}
use Rattle.callvalues.proofs.Kept.{kept_all, kept_some}
use Rattle.callvalues.proofs.lines.keep.Goals as goal

pub returns-then-room-piece : goal.returns-then-room-piece
returns-then-room-piece c = let a = c.args in (kept_some a.n (257 - a.n - 0) a.piece.now a.kept.now _ (omega arith) c.store_all.ensures, omega (arith, c.if-room-piece.true))

pub returns : goal.returns
returns c = let a = c.args in (kept_all a.n a.piece.now a.kept.now _ (omega (arith, c.if-room-piece.false)) c.store_all-2.ensures, omega (arith, c.if-room-piece.false))
