-- The invariant: the ranges passed over have no commit, so what was left begins with them and then what is left now.
use Rattle.std.proofs.Common.{◌≡◌, ◌<◌, length, refl, ap, arith}
use Rattle.layout.specs.Tables.{commits_in}
use Rattle.commits.proofs.LookLaws.{place_at_lem, place_missing}
use Rattle.paths.specs.Left.{leading}
use Rattle.paths.proofs.LeftLaws.{places, left_step, left_end, leading_more, leading_here}
use Rattle.paths.proofs.next_range.Goals as goal

pub loop-at-init : goal.loop-at-init
loop-at-init c = refl

pub returns-in_default : goal.returns-in_default
returns-in_default c =
    let l : length c.args.left.path ≡ 8 = places c.args.left _ c.well_formed.1.0 in
    let h : c.loop-at.at < c.args.left.len = omega arith in
    let k : c.loop-at.at < length c.args.left.path = omega arith in
    let e = leading_here (commits_in c.args.commits.now) _ _ _ _ (left_step c.args.left.path c.args.left.len c.loop-at.at _ h k) (place_at_lem c.args.commits.now _ _ c.first_in.ensures _ c.in_default.is).0 in
    omega (arith, c.loop-at.invariant, e)

pub loop-at-preserved : goal.loop-at-preserved
loop-at-preserved c =
    let l : length c.args.left.path ≡ 8 = places c.args.left _ c.well_formed.1.0 in
    let h : c.loop-at.at < c.args.left.len = omega arith in
    let k : c.loop-at.at < length c.args.left.path = omega arith in
    let e = leading_more (commits_in c.args.commits.now) _ _ _ (left_step c.args.left.path c.args.left.len c.loop-at.at _ h k) (place_missing c.args.commits.now _ _ c.first_in.ensures c.in-None.is) in
    (omega (arith, c.loop-at.invariant, e))

pub returns : goal.returns
returns c =
    let e = ap (leading (commits_in c.args.commits.now)) (left_end c.args.left.path c.args.left.len c.loop-at.at (omega arith)) in
    omega (arith, c.loop-at.invariant, e)
