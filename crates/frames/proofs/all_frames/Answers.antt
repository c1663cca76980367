-- The places before i hold the frames passed, and those from i on are zero (`Walked`). Assumes nothing.
use Rattle.std.proofs.Common.{◌+◌, ◌≤◌, length, arith}
use Rattle.commit.proofs.RecordLaws.{long_of}
use Rattle.frames.proofs.PlaceLaws.{ok_normal, ok_few}
use Rattle.frames.proofs.ListLaws.{walk_starts, next_fits, next_page_lem, walks_on, walk_ends, parts_long}
use Rattle.frames.proofs.all_frames.Goals as goal

pub before_first-below-requires : goal.before_first-below-requires
before_first-below-requires c = ok_normal c.args.s c.requires

pub loop-i-init : goal.loop-i-init
loop-i-init c = (ok_few c.args.s c.requires, rw c.zero-none.ensures (walk_starts c.args.s c.requires _ c.before_first-below.ensures))

pub offset_bounds-fs-i : goal.offset_bounds-fs-i
offset_bounds-fs-i c = omega arith

pub bounds-fs-i : goal.bounds-fs-i
bounds-fs-i c = omega arith

pub overflow_add-end : goal.overflow_add-end
overflow_add-end c =
    let long : c.args.s.len ≤ length c.args.s.frames = omega (arith, long_of c.args.s _ c.well_formed.0, ok_few c.args.s c.requires) in
    let d = c.loop-i in
    omega (arith, next_fits c.args.s (long) _ d.i d.start (d.below + 1) d.frames d.invariant.1 (omega arith) (omega arith))

pub overflow_add-first : goal.overflow_add-first
overflow_add-first c =
    let d = c.loop-i in
    omega (arith, next_page_lem c.args.s (omega (arith, long_of c.args.s _ c.well_formed.0, ok_few c.args.s c.requires)) _ d.i d.start (d.below + 1) d.frames d.invariant.1 (omega arith) (omega arith))

pub frame_at-requires : goal.frame_at-requires
frame_at-requires c = record { pages_value = ok_normal c.args.s c.requires; first_nonzero = omega arith }

pub offset_bounds-frames-i : goal.offset_bounds-frames-i
offset_bounds-frames-i c = omega arith

pub bounds-frames-i : goal.bounds-frames-i
bounds-frames-i c = omega arith

pub loop-i-preserved : goal.loop-i-preserved
loop-i-preserved c =
    let long : c.args.s.len ≤ length c.args.s.frames = omega (arith, long_of c.args.s _ c.well_formed.0, ok_few c.args.s c.requires) in
    let d = c.loop-i in
    (omega arith, walks_on c.args.s (long) _ d.i d.start (d.below + 1) d.frames d.invariant.1 (omega arith) (omega arith) _ c.frame_at.ensures)

pub returns : goal.returns
returns c =
    let long : c.args.s.len ≤ length c.args.s.frames = omega (arith, long_of c.args.s _ c.well_formed.0, ok_few c.args.s c.requires) in
    let d = c.loop-i in
    walk_ends c.args.s (long) _ d.i d.start (d.below + 1) d.frames d.invariant.1 (omega arith) (omega (arith, parts_long c.args.s (long)))
