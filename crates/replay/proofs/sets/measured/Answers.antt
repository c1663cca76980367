-- The set is the front of the record.
use Rattle.std.proofs.Common.{◌≡◌, ◌≤◌, length, arith, rules, length-take}
use Rattle.replay.proofs.sets.measured.Goals as goal

pub slice_bounds-set-end : goal.slice_bounds-set-end
slice_bounds-set-end c =
    let n : length c.args.record ≡ 391 = search rules in
    omega (arith, length-take 385 c.args.record)
