-- A commit in bytes, and the value that what it spells makes: zeros beside what is missing, and past the checkpoints that are listed.
use Rattle.std.specs.Prelude.{◌≡◌, ℕ, ◌-◌, Bool, cond, ◌&&◌, List, ◌++◌, map, length, take, replicate, ◌==◌, nat_le}
use Rattle.std.proofs.Math.Option.{Option, none, some}
use Rattle.octets.specs.Bytes.{be}
use Rattle.table.specs.Table.{runs}
use Rattle.basics.specs.declared.lsn.Lsn.{Lsn}
use Rattle.basics.specs.Hashes.{zero_hash}
use Rattle.basics.specs.Says.{lsn_laid}
use Rattle.rules.specs.Lists.{all}
use Rattle.rules.specs.Records as R
use Rattle.rules.specs.Forms.{id_form, lsn_form}
use Rattle.commit.specs.declared.Presence.{Presence}
use Rattle.commit.specs.declared.Presence.TheVariants.{Missing, Given}
use Rattle.commit.specs.declared.SegmentIdx.{SegmentIdx}
use Rattle.commit.specs.declared.Commit.{Commit}
use Rattle.commit.specs.Builders.{zero_segment}
use Rattle.segmentbytes.specs.Laid.{segment_laid}

-- ---- checkpoints

-- the n LSNs that stand at a place
unfoldable pub lsns_at : ℕ → ℕ → List ℕ → List ℕ
lsns_at n at s = map be (runs n 8 at s)

-- the number of an LSN
abbrev pub lsn_says : Lsn → ℕ
lsn_says n = n.0

-- LSNs, in the places for them
abbrev pub lsns_laid : List ℕ → List Lsn
lsns_laid ns = map lsn_laid ns ++ replicate (8 - length ns) (lsn_laid 0)

-- an array of LSNs is laid out for its first n: it counts no more than there are, and is zero past them
pub record IsLaid (n : ℕ) (ns : List Lsn) : Type 0 where
  pub count : length (map lsn_says (take n ns)) ≡ n
  pub array : lsns_laid (map lsn_says (take n ns)) ≡ ns

-- at most 8 LSNs in form
unfoldable pub lsns_form : List ℕ → Bool
lsns_form ns = nat_le (length ns) 8 && all lsn_form ns

-- ---- the key

-- a log and an LSN in form
unfoldable pub key_form : R.LogLsn → Bool
key_form k = id_form k.0 && lsn_form k.1

-- ---- what may be missing

-- whether it is there
abbrev pub presence : {A : Type 0} → Option A → Presence
presence none = Missing
presence (some a) = Given

-- what a flag says, and the flag that says it
abbrev pub presence_of : ℕ → Presence
presence_of n = cond (n == 0) Missing Given

abbrev pub flag_of : Presence → ℕ
flag_of Missing = 0
flag_of Given = 1

-- a hash, and ZERO where it is missing
abbrev pub hash_laid : Option R.Hash → List ℕ
hash_laid none = zero_hash
hash_laid (some h) = h

-- a segment, and zeros where it is missing
abbrev pub given_segment : Option R.Segment → SegmentIdx
given_segment none = zero_segment
given_segment (some s) = segment_laid s

-- a commit
abbrev pub commit_laid : R.Commit → Commit
commit_laid c = record {
  log = c.log;
  lsn = lsn_laid c.lsn;
  count = record { 0 = c.count };
  has_hash = presence c.hash;
  hash = hash_laid c.hash;
  has_segment = presence c.segment;
  segment = given_segment c.segment;
  listed = length c.checkpoints;
  checkpoints = lsns_laid c.checkpoints;
}
