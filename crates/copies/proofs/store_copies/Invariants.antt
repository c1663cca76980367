-- The invariant is `Copying`: the commits to come and what they add.
use Rattle.std.proofs.Common.{◌≡◌, length}
use Rattle.octets.specs.Bytes.{AreBytes}
use Rattle.copies.proofs.Copying.{Copying, end_commits, end_checkpoints, end_index}
use Rattle.copies.proofs.store_copies.Given as goal

abbrev pub invariant-loop-k : goal.invariant-loop-k
invariant-loop-k l =
    (length l.commits ≡ length l.initial.commits) × (length l.checkpoints ≡ length l.initial.checkpoints) × (length l.index ≡ length l.initial.index)
    × AreBytes l.commits × AreBytes l.checkpoints × AreBytes l.index
    × Copying l.log (end_commits l.initial.commits l.initial.checkpoints l.initial.index l.initial.rest l.log) (end_checkpoints l.initial.commits l.initial.checkpoints l.initial.index l.initial.rest l.log) (end_index l.initial.commits l.initial.checkpoints l.initial.index l.initial.rest l.log) l.initial.commits l.initial.checkpoints l.initial.index l.commits l.checkpoints l.index l.rest l.k
