-- The snapshot is the front of the record.
use Rattle.std.proofs.Common.{◌≡◌, ◌≤◌, length, arith, rules, length-take}
use Rattle.replay.proofs.logs.head.Goals as goal

pub slice_bounds-snapshot-end : goal.slice_bounds-snapshot-end
slice_bounds-snapshot-end c =
    let n : length c.args.record ≡ 288 = search rules in
    omega (arith, length-take 262 c.args.record)
