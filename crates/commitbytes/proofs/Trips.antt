-- What a commit that is laid out says is what it was laid out for, and both round trips: what was written is read again, and what was read is written as it stood.
use Rattle.std.proofs.Common.{◌≡◌, ℕ, ◌+◌, ◌≤◌, true, List, map, length, take, refl}
use mathlib.Core.Option.{Option, none, some}
use Rattle.octets.specs.Bytes.{part, put}
use Rattle.rules.specs.Records as R
use Rattle.rules.specs.Forms.{commit_form}
use Rattle.commit.specs.declared.Commit.{Commit}
use Rattle.commit.specs.Says.{given_says, segment_says, commit_says}
use Rattle.layout.specs.Codecs.{Codec, in_form}
use Rattle.layout.specs.Values.{window_bytes, set_bytes, frame_bytes, frames_bytes, segment_bytes}
use Rattle.layout.specs.Records.{log_lsn_bytes, commit_bytes}
use Rattle.layout.proofs.FormHolds.{commit_held}
use Rattle.setbytes.proofs.TripLaws.{read_again, written_again}
use Rattle.segmentbytes.proofs.Trips.{segment_says_lem}
use Rattle.commitbytes.specs.Laid.{presence, hash_laid, given_segment, lsn_says, lsns_laid, commit_laid}
use Rattle.commitbytes.proofs.LsnLaws.{says_lsns}

-- ---- what is said

hash_says : (h : Option R.Hash) → given_says (presence h) (hash_laid h) ≡ h
hash_says none = refl
hash_says (some h) = refl

given_says_lem : (x : Option R.Segment) → given_says (presence x) (segment_says (given_segment x)) ≡ x
given_says_lem none = refl
given_says_lem (some x) = let e = segment_says_lem x in λ j. some (e j)

pub commit_says_lem : (v : R.Commit) → commit_says (commit_laid v) ≡ v
commit_says_lem v =
    let h = hash_says v.hash in
    let x = given_says_lem v.segment in
    let n = says_lsns v.checkpoints (length v.checkpoints) refl in
    λ j. record { log = v.log; lsn = v.lsn; count = v.count; hash = h j; segment = x j; checkpoints = n j }

-- ---- the round trips

module _ (s : List ℕ) (at : ℕ) (h : at + 722 ≤ length s) where
  pub commit_read_again : (x : Commit) → commit_form (commit_says x) ≡ true → commit_laid (commit_says x) ≡ x → commit_laid (commit_bytes.read (part at 722 (put at (commit_bytes.spell (commit_says x)) s))) ≡ x
  unfolding commit_bytes log_lsn_bytes segment_bytes set_bytes window_bytes frames_bytes frame_bytes
  commit_read_again x f e = read_again commit_bytes commit_says commit_laid s at h x (commit_held (commit_says x) f) e

  pub commit_written_again : in_form commit_bytes commit_form (part at 722 s) ≡ true → put at (commit_bytes.spell (commit_says (commit_laid (commit_bytes.read (part at 722 s))))) s ≡ s
  unfolding commit_bytes log_lsn_bytes segment_bytes set_bytes window_bytes frames_bytes frame_bytes
  commit_written_again f = written_again commit_bytes commit_says commit_laid s at h commit_form f (commit_says_lem (commit_bytes.read (part at 722 s)))
