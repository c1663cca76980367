-- After i turns the first i frames stand in the list, one after another, each in its 417 bytes. Assumes nothing.
use Rattle.std.proofs.Common.{refl, arith, rules}
use Rattle.rules.specs.Frames.{parts_of}
use Rattle.segmentbytes.proofs.Trips.{range_laid_lem}
use Rattle.segmentargs.specs.Lists.{segment_in}
use Rattle.segmentargs.proofs.ListLaws.{frames_few, parts_long, listed_none, listed_more, listed_all}
use Rattle.segmentargs.proofs.lists.write_frames.Goals as goal

pub loop-i-init : goal.loop-i-init
loop-i-init c =
    (refl, listed_none (parts_of (segment_in 0 c.args.b.now)) c.args.list.now)

pub frame_in-range-requires : goal.frame_in-range-requires
frame_in-range-requires c =
    (c.requires.in_bounds.0, c.requires.in_bounds.1, omega (arith, c.requires.in_bounds.2))

pub overflow_mul-i : goal.overflow_mul-i
overflow_mul-i c =
    omega (arith, c.requires.in_bounds.2, frames_few c.args.b.now 0 c.requires.in_bounds.0)

pub range_write-requires : goal.range_write-requires
range_write-requires c = let l = c.loop-i in record { at_in_bounds = omega (arith, c.requires.n_in_bounds, l.invariant.0); x_value = range_laid_lem _ c.frame_in-range.ensures.normal }

pub loop-i-preserved : goal.loop-i-preserved
loop-i-preserved c =
    let l = c.loop-i in
    let f = c.frame_in-range in
    (search rules, listed_more (parts_of (segment_in 0 c.args.b.now)) c.args.list.now l.i f.result l.list _ f.ensures (omega (arith, c.requires.n_in_bounds)) l.invariant.1 c.range_write.ensures)

pub returns : goal.returns
returns c =
    let l = c.loop-i in
    listed_all (parts_of (segment_in 0 c.args.b.now)) c.args.list.now l.i l.list (omega (arith, c.requires.in_bounds.2, parts_long (segment_in 0 c.args.b.now))) l.invariant.1
