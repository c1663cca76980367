-- Its fields are stored one after another; in a commit that is laid out each part is. Assumes nothing.
use Rattle.std.proofs.Common.{ap, arith, rules}
use Rattle.commit.specs.declared.Commit.{Commit}
use Rattle.commit.specs.Says.{commit_says, segment_says}
use Rattle.layout.specs.Records.{hash_bytes}
use Rattle.layout.specs.Values.{window_bytes, set_bytes, frame_bytes, frames_bytes, segment_bytes}
use Rattle.commitbytes.proofs.LsnLaws.{lsns_long}
use Rattle.layout.proofs.PlaceLaws.{key_long}
use Rattle.commitbytes.proofs.TypeLaws.{log_16, hash_32, segment_594, checkpoints_8}
use Rattle.commitbytes.proofs.CommitLaws.{given_long, commit_stored}
use Rattle.commitbytes.proofs.commit_write.Goals as goal

pub hash_write-requires : goal.hash_write-requires
hash_write-requires c = record { at_in_bounds = search rules; hash_value = ap (λ (x : Commit). x.hash) c.requires.x_value }

pub given_write-requires : goal.given_write-requires
given_write-requires c = record { at_in_bounds = search rules; x_value = ap (λ (x : Commit). x.segment) c.requires.x_value }

pub lsns_write-requires : goal.lsns_write-requires
lsns_write-requires c = let e = c.requires.x_value in record { at_in_bounds = search rules; laid = record { count = ap (λ (x : Commit). x.listed) e; array = ap (λ (x : Commit). x.checkpoints) e } }

pub returns : goal.returns
unfolding frame_bytes frames_bytes segment_bytes set_bytes window_bytes
returns c =
    let x = c.args.x in
    let g = c.well_formed.1.1.0 in
    commit_stored c.args.at (commit_says x) c.args.s.now _ _ _ _ _ (key_long x.log x.lsn.0 (log_16 x _ g)) (given_long hash_bytes x.has_hash x.hash (hash_32 x _ g))
    (given_long segment_bytes x.has_segment (segment_says x.segment) (segment_594 x _ g)) (lsns_long x.listed x.checkpoints (checkpoints_8 x _ g)) (omega arith)
    c.key_write.ensures c.store32.ensures c.hash_write.ensures c.given_write.ensures c.lsns_write.ensures
