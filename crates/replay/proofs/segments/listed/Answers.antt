-- The segment is the front of the record.
use Rattle.std.proofs.Common.{◌≡◌, ◌≤◌, length, arith, rules, length-take}
use Rattle.replay.proofs.segments.listed.Goals as goal

pub slice_bounds-segment-end : goal.slice_bounds-segment-end
slice_bounds-segment-end c =
    let n : 600 ≤ length c.args.record.now = search rules in
    omega (arith, length-take 594 c.args.record.now)
