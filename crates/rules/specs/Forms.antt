-- The form of each field of each record: what 20 asks of a lent table, beside its count and its key order. No two records are compared.
use Rattle.std.specs.Prelude.{ℕ, ◌+◌, Bool, true, ◌&&◌, List, [], ◌∷◌, length, ◌==◌, nat_le, nat_lt}
use Rattle.std.proofs.Math.Option.{Option, none, some}
use Rattle.basics.specs.Numbers.{last_lsn, last_page, counts}
use Rattle.pageset.specs.Sets.{normal_form}
use Rattle.rules.specs.Lists.{all, given}
use Rattle.rules.specs.Records.{Id, Hash, Name, Pages, Frame, Segment, Commit, SyncPoint, Pending, Volume, Entry, Checkpoint, Present, Tag}
use Rattle.rules.specs.Pages.{first_page}

-- ---- numbers and bytes

-- LSN: 1 to 2^64-1
unfoldable pub lsn_form : ℕ → Bool
lsn_form n = counts n && nat_le n last_lsn

-- page number: 1 to 2^32-1
unfoldable pub page_form : ℕ → Bool
page_form p = counts p && nat_le p last_page

-- page count: 0 to 2^32-1
unfoldable pub count_form : ℕ → Bool
count_form n = nat_le n last_page

-- n bytes
unfoldable pub bytes_form : ℕ → List ℕ → Bool
bytes_form n b = length b == n && all (λ x. nat_lt x 256) b

-- identifiers are sixteen bytes
abbrev pub id_form : Id → Bool
id_form a = bytes_form 16 a

-- a commit hash is 32 bytes
abbrev pub hash_form : Hash → Bool
hash_form h = bytes_form 32 h

-- a tag name is 1 to 32 bytes
unfoldable pub name_length : Name → Bool
name_length n = nat_le 1 (length n) && nat_le (length n) 32

-- a tag name in form: 1 to 32 bytes, each below 256
unfoldable pub name_form : Name → Bool
name_form n = name_length n && all (λ x. nat_lt x 256) n

-- ---- segments

-- frame 1 starts at the set's first page (page 1 if empty)
abbrev pub or_one : Option ℕ → ℕ
or_one none = 1
or_one (some p) = p

-- the starting page of a set
abbrev pub start_page : Pages → ℕ
start_page s = or_one (first_page s)

-- last pages strictly rise, the first is not below the starting page
unfoldable pub lasts_from : ℕ → List Frame → Bool
lasts_from p [] = true
lasts_from p (f ∷ fs) = nat_le p f.last && nat_le f.last last_page && lasts_from (f.last + 1) fs

-- sizes sum to at most 2^64-1
abbrev pub total : List Frame → ℕ
total [] = 0
total (f ∷ fs) = f.size + total fs

-- at most 16 frames in a segment
unfoldable pub frames_form : Pages → List Frame → Bool
frames_form s fs = nat_le (length fs) 16 && lasts_from (start_page s) fs && nat_le (total fs) last_lsn

-- a segment's set and its frames
unfoldable pub lists_form : Segment → Bool
lists_form s = normal_form s.pages && frames_form s.pages s.frames

-- a segment
unfoldable pub segment_form : Segment → Bool
segment_form s = id_form s.sid && lists_form s

-- ---- the records of the six tables

-- at most 8 checkpoint LSNs in a commit (any order, repeats allowed)
unfoldable pub commit_form : Commit → Bool
commit_form c =
    id_form c.log && lsn_form c.lsn && count_form c.count && given hash_form c.hash && given segment_form c.segment
    && nat_le (length c.checkpoints) 8 && all lsn_form c.checkpoints

-- a checkpoint entry
unfoldable pub checkpoint_form : Checkpoint → Bool
checkpoint_form k = id_form k.log && lsn_form k.lsn

-- an index entry
unfoldable pub entry_form : Entry → Bool
entry_form e = id_form e.log && page_form e.page && lsn_form e.lsn

-- a present page
unfoldable pub present_form : Present → Bool
present_form p = id_form p.sid && page_form p.page

-- a sync point; its watermark may be missing
unfoldable pub sync_form : SyncPoint → Bool
sync_form s = lsn_form s.remote && given lsn_form s.watermark

-- a pending hash ZERO is allowed
unfoldable pub pending_form : Pending → Bool
pending_form p = lsn_form p.local && lsn_form p.commit && hash_form p.hash

-- a volume; its sync point and its pending commit may be missing
unfoldable pub volume_form : Volume → Bool
volume_form v = id_form v.vid && id_form v.local && id_form v.remote && given sync_form v.sync && given pending_form v.pending

-- a tag
unfoldable pub tag_form : Tag → Bool
tag_form g = name_form g.name && id_form g.vid
