-- By what is pending, the place of the commit there, its hash, and room for what it adds.
use Rattle.std.proofs.Common.{ℕ, List, sym, ap, ◌∙◌, subst}
use Rattle.commits.proofs.LookLaws.{place_at_lem, place_missing}
use Rattle.rules.specs.Write.{write, logs_fit}
use Rattle.volume.specs.Volumes.{volume_says, pending_says}
use Rattle.writecalls.specs.Written.{IsCommit, commit_in, logs_in}
use Rattle.pushcalls.proofs.Ends.{idle, not_stored, other_hash, is_stored, no_room, recover_goes}
use Rattle.pushcalls.proofs.recover_found.Goals as goal

pub returns-in_default : goal.returns-in_default
returns-in_default c = idle c.args.commits.now c.args.checkpoints.now c.args.index.now c.requires c.args.at (volume_says c.args.v) (ap pending_says c.in_default.is)

pub returns-in_default-find_commit : goal.returns-in_default-find_commit
returns-in_default-find_commit c = not_stored c.args.commits.now c.args.checkpoints.now c.args.index.now c.requires c.args.at (volume_says c.args.v) _ (ap pending_says c.in-Some.is) (place_missing c.args.commits.now _ _ c.find_commit.ensures c.in_default-find_commit.is)

pub hash_is-requires : goal.hash_is-requires
hash_is-requires c = (c.requires.0, (place_at_lem c.args.commits.now _ _ c.find_commit.ensures c.in-Some-find_commit.j c.in-Some-find_commit.is).1)

pub returns-then-not-hash_is : goal.returns-then-not-hash_is
returns-then-not-hash_is c = other_hash c.args.commits.now c.args.checkpoints.now c.args.index.now c.requires c.args.at (volume_says c.args.v) _ (ap pending_says c.in-Some.is) c.in-Some-find_commit.j (place_at_lem c.args.commits.now _ _ c.find_commit.ensures c.in-Some-find_commit.j c.in-Some-find_commit.is).1 (place_at_lem c.args.commits.now _ _ c.find_commit.ensures c.in-Some-find_commit.j c.in-Some-find_commit.is).0 (sym c.hash_is.ensures ∙ c.if-not-hash_is.true)

pub commit_copy-row-requires : goal.commit_copy-row-requires
commit_copy-row-requires c = (c.requires.0, (place_at_lem c.args.commits.now _ _ c.find_commit.ensures c.in-Some-find_commit.j c.in-Some-find_commit.is).1)

pub write_room-requires : goal.write_room-requires
write_room-requires c = record { commits_value = c.requires; commit = subst (λ (z : List ℕ). IsCommit z) (sym c.commit_copy-row.ensures) (is_stored c.args.commits.now c.requires.0 c.in-Some-find_commit.j (place_at_lem c.args.commits.now _ _ c.find_commit.ensures c.in-Some-find_commit.j c.in-Some-find_commit.is).1) }

pub returns-then-not-write_room : goal.returns-then-not-write_room
returns-then-not-write_room c = no_room c.args.commits.now c.args.checkpoints.now c.args.index.now c.requires c.args.at (volume_says c.args.v) _ (ap pending_says c.in-Some.is) c.in-Some-find_commit.j (place_at_lem c.args.commits.now _ _ c.find_commit.ensures c.in-Some-find_commit.j c.in-Some-find_commit.is).1 (place_at_lem c.args.commits.now _ _ c.find_commit.ensures c.in-Some-find_commit.j c.in-Some-find_commit.is).0 (sym c.hash_is.ensures ∙ c.if-not-hash_is.false) (ap (λ (z : List ℕ). logs_fit (write (logs_in c.args.commits.now c.args.checkpoints.now c.args.index.now) (commit_in z))) (sym c.commit_copy-row.ensures) ∙ (sym c.write_room.ensures ∙ c.if-not-write_room.true))

pub returns : goal.returns
returns c = recover_goes c.args.commits.now c.args.checkpoints.now c.args.index.now c.requires c.args.at (volume_says c.args.v) _ (ap pending_says c.in-Some.is) c.in-Some-find_commit.j (place_at_lem c.args.commits.now _ _ c.find_commit.ensures c.in-Some-find_commit.j c.in-Some-find_commit.is).1 (place_at_lem c.args.commits.now _ _ c.find_commit.ensures c.in-Some-find_commit.j c.in-Some-find_commit.is).0 (sym c.hash_is.ensures ∙ c.if-not-hash_is.false) (ap (λ (z : List ℕ). logs_fit (write (logs_in c.args.commits.now c.args.checkpoints.now c.args.index.now) (commit_in z))) (sym c.commit_copy-row.ensures) ∙ (sym c.write_room.ensures ∙ c.if-not-write_room.false))
