-- The invariant: what was counted and what is left make up all.
use Rattle.std.proofs.Common.{◌<◌, length, ap, ◌∙◌, arith}
use Rattle.rules.specs.Walk.{path_commits}
use Rattle.layout.specs.Tables.{commits_in}
use Rattle.paths.proofs.LeftLaws.{places, left_step, left_end, count_step, run_size, left_small}
use Rattle.paths.proofs.commits_left.Goals as goal

pub loop-at-init : goal.loop-at-init
loop-at-init c = omega arith

pub overflow_add-n : goal.overflow_add-n
overflow_add-n c =
    let l = places c.args.left _ c.well_formed.1.0 in
    let h : c.loop-at.at < c.args.left.len = omega arith in
    let k : c.loop-at.at < length c.args.left.path = omega (arith, l, c.requires.1) in
    let e = count_step (commits_in c.args.commits.now) _ _ _ c.saturating_sub-n.result (left_step c.args.left.path c.args.left.len c.loop-at.at _ h k) (c.saturating_sub-n.ensures ∙ run_size c.args.commits.now _ _ _ c.range_run-run.ensures) in
    omega (arith, e, c.loop-at.invariant, left_small c.args.commits.now c.requires.0 c.args.left l)

pub loop-at-preserved : goal.loop-at-preserved
loop-at-preserved c =
    let l = places c.args.left _ c.well_formed.1.0 in
    let h : c.loop-at.at < c.args.left.len = omega arith in
    let k : c.loop-at.at < length c.args.left.path = omega (arith, l, c.requires.1) in
    let e = count_step (commits_in c.args.commits.now) _ _ _ c.saturating_sub-n.result (left_step c.args.left.path c.args.left.len c.loop-at.at _ h k) (c.saturating_sub-n.ensures ∙ run_size c.args.commits.now _ _ _ c.range_run-run.ensures) in
    (omega (arith, e, c.loop-at.invariant))

pub returns : goal.returns
returns c =
    let e = ap (λ ps. length (path_commits (commits_in c.args.commits.now) ps)) (left_end c.args.left.path c.args.left.len c.loop-at.at (omega arith)) in
    omega (arith, c.loop-at.invariant, e)
