-- After i turns the first i frames stand in the list, one after another, each in its 417 bytes. Assumes nothing.
use Rattle.std.proofs.Common.{◌≡◌, length, take}
use Rattle.rules.specs.Frames.{parts_of}
use Rattle.layout.specs.Values.{part_bytes}
use Rattle.resultlists.proofs.EntryLaws.{Listed}
use Rattle.segmentargs.specs.Lists.{segment_in}
use Rattle.segmentargs.proofs.lists.write_frames.Given as goal

abbrev pub invariant-loop-i : goal.invariant-loop-i
invariant-loop-i l = (length l.list ≡ length l.initial.list) × Listed part_bytes 417 l.initial.list (take l.i (parts_of (segment_in 0 l.b))) l.list
