-- The invariant is `Copying`: the commits to come and what they add.
use Rattle.std.proofs.Common.{◌≡◌, ℕ, ◌+◌, ◌-◌, get_or, refl, subst, arith, w8, Fits, rules}
use Rattle.paths.proofs.LeftLaws.{places}
use Rattle.copies.proofs.Copying.{Copying, end_commits, end_checkpoints, end_index, copying_start, copy_fits, copying_next, end_commits_lem, end_checkpoints_lem, end_index_lem}
use Rattle.copies.proofs.store_copies.Goals as goal

pub loop-k-init : goal.loop-k-init
loop-k-init c = (
  refl,
  refl,
  refl,
  (λ j. omega (arith, c.type_inv.commits j)),
  (λ j. omega (arith, c.type_inv.checkpoints j)),
  (λ j. omega (arith, c.type_inv.index j)),
  copying_start c.args.commits.now c.args.checkpoints.now c.args.index.now c.args.left c.args.log c.requires.commits_value (places c.args.left _ c.well_formed.1.1.1.0) c.args.n c.requires.is_left c.requires.left_value
      (search rules) (λ j. let f : Fits w8 (get_or c.args.log j 0) = search rules in f.fits),
)

pub next_commit-met-requires : goal.next_commit-met-requires
next_commit-met-requires c = record { commits_value = (c.loop-k.invariant.6.in_commits.good, c.loop-k.invariant.6.is_left); nonzero = omega (arith, c.loop-k.invariant.6.count) }

pub copied_row-c-requires : goal.copied_row-c-requires
copied_row-c-requires c = (c.loop-k.invariant.6.in_commits.good, c.next_commit-met.ensures.inside, omega arith)

pub write_stored-requires : goal.write_stored-requires
write_stored-requires c =
    let z : (c.loop-k.k - 1) + 1 ≡ c.loop-k.k = omega arith in
    let is = rw z at c.copied_row-c.ensures.1 in
    record { commits_value = (c.loop-k.invariant.6.in_commits.good, c.loop-k.invariant.6.in_checkpoints.good, c.loop-k.invariant.6.in_index.good); commit = c.copied_row-c.ensures.0; c_value = copy_fits c.args.log (end_commits c.args.commits.now c.args.checkpoints.now c.args.index.now c.args.left c.args.log) (end_checkpoints c.args.commits.now c.args.checkpoints.now c.args.index.now c.args.left c.args.log) (end_index c.args.commits.now c.args.checkpoints.now c.args.index.now c.args.left c.args.log) c.args.commits.now c.args.checkpoints.now c.args.index.now c.loop-k.commits c.loop-k.checkpoints c.loop-k.index c.loop-k.rest c.loop-k.k c.loop-k.invariant.6 c.next_commit-met.result c.next_commit-met.ensures _ is }

pub loop-k-preserved : goal.loop-k-preserved
loop-k-preserved c =
    let z : (c.loop-k.k - 1) + 1 ≡ c.loop-k.k = omega arith in
    let is = rw z at c.copied_row-c.ensures.1 in (
      omega (arith, c.loop-k.invariant.0, c.write_stored.auto.commits),
      omega (arith, c.loop-k.invariant.1, c.write_stored.auto.checkpoints),
      omega (arith, c.loop-k.invariant.2, c.write_stored.auto.index),
      (λ j. omega (arith, c.type_inv.commits j)),
      (λ j. omega (arith, c.type_inv.checkpoints j)),
      (λ j. omega (arith, c.type_inv.index j)),
      copying_next c.args.log (end_commits c.args.commits.now c.args.checkpoints.now c.args.index.now c.args.left c.args.log) (end_checkpoints c.args.commits.now c.args.checkpoints.now c.args.index.now c.args.left c.args.log) (end_index c.args.commits.now c.args.checkpoints.now c.args.index.now c.args.left c.args.log) c.args.commits.now c.args.checkpoints.now c.args.index.now c.loop-k.commits c.loop-k.checkpoints c.loop-k.index c.loop-k.rest c.loop-k.k c.loop-k.invariant.6 c.next_commit-met.result c.next_commit-met.ensures _ is _ _ _ c.write_stored.ensures.commits_after c.write_stored.ensures.checkpoints_after c.write_stored.ensures.index_after _ (omega arith),
    )

pub shape_of-commits : goal.shape_of-commits
shape_of-commits c = omega (arith, c.loop-k.invariant.0)

pub shape_of-checkpoints : goal.shape_of-checkpoints
shape_of-checkpoints c = omega (arith, c.loop-k.invariant.1)

pub shape_of-index : goal.shape_of-index
shape_of-index c = omega (arith, c.loop-k.invariant.2)

pub returns : goal.returns
returns c = let z : c.loop-k.k ≡ 0 = omega arith in
    let h = subst (λ (k : ℕ). Copying c.args.log (end_commits c.args.commits.now c.args.checkpoints.now c.args.index.now c.args.left c.args.log) (end_checkpoints c.args.commits.now c.args.checkpoints.now c.args.index.now c.args.left c.args.log) (end_index c.args.commits.now c.args.checkpoints.now c.args.index.now c.args.left c.args.log) c.args.commits.now c.args.checkpoints.now c.args.index.now c.loop-k.commits c.loop-k.checkpoints c.loop-k.index c.loop-k.rest k) z c.loop-k.invariant.6 in record { commits_after = end_commits_lem c.args.commits.now c.args.checkpoints.now c.args.index.now c.args.left c.args.log c.loop-k.commits c.loop-k.checkpoints c.loop-k.index c.loop-k.rest h c.loop-k.invariant.3 c.loop-k.invariant.4 c.loop-k.invariant.5; checkpoints_after = end_checkpoints_lem c.args.commits.now c.args.checkpoints.now c.args.index.now c.args.left c.args.log c.loop-k.commits c.loop-k.checkpoints c.loop-k.index c.loop-k.rest h c.loop-k.invariant.3 c.loop-k.invariant.4 c.loop-k.invariant.5; index_after = end_index_lem c.args.commits.now c.args.checkpoints.now c.args.index.now c.args.left c.args.log c.loop-k.commits c.loop-k.checkpoints c.loop-k.index c.loop-k.rest h c.loop-k.invariant.3 c.loop-k.invariant.4 c.loop-k.invariant.5 }
