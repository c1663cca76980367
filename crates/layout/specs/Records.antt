-- The byte forms of the six tables' records. A key is a record's first bytes, and its first byte is reserved.
use Rattle.std.specs.Prelude.{ℕ, List}
use Rattle.std.proofs.Math.Option.{Option}
use Rattle.rules.specs.Records.{Segment, Commit, SyncPoint, Pending, Volume, Entry, Checkpoint, Present, Tag}
use Rattle.layout.specs.Codecs.{Codec, number, complement, raw, padded, reserved, optional, listed, pair, viewed}
use Rattle.layout.specs.Values.{id_bytes, segment_bytes}

-- a commit hash
abbrev pub hash_bytes : Codec (List ℕ)
hash_bytes = raw 32

abbrev pub sync_of : ℕ × Option ℕ → SyncPoint
sync_of x = record { remote = x.0; watermark = x.1 }

abbrev pub sync_parts : SyncPoint → ℕ × Option ℕ
sync_parts s = (s.remote, s.watermark)

-- a sync point: the remote LSN, and the watermark, which may be missing
unfoldable pub sync_bytes : Codec SyncPoint
sync_bytes = viewed (pair (number 8) (optional (number 8))) sync_of sync_parts

abbrev pub pending_of : ℕ × (ℕ × List ℕ) → Pending
pending_of x = record { local = x.0; commit = x.1.0; hash = x.1.1 }

abbrev pub pending_parts : Pending → ℕ × (ℕ × List ℕ)
pending_parts p = (p.local, (p.commit, p.hash))

-- a pending commit: the local LSN, the LSN of the remote commit, its hash
unfoldable pub pending_bytes : Codec Pending
pending_bytes = viewed (pair (number 8) (pair (number 8) hash_bytes)) pending_of pending_parts

abbrev pub volume_of : List ℕ × (List ℕ × (List ℕ × (Option SyncPoint × Option Pending))) → Volume
volume_of x = record { vid = x.0; local = x.1.0; remote = x.1.1.0; sync = x.1.1.1.0; pending = x.1.1.1.1 }

abbrev pub volume_parts : Volume → List ℕ × (List ℕ × (List ℕ × (Option SyncPoint × Option Pending)))
volume_parts v = (v.vid, (v.local, (v.remote, (v.sync, v.pending))))

-- a volume: its identifier (its key), a reserved byte, its logs, its sync point and its pending commit
unfoldable pub volume_bytes : Codec Volume
volume_bytes = viewed (pair (reserved id_bytes) (pair (reserved id_bytes) (pair id_bytes (pair (optional sync_bytes) (optional pending_bytes))))) volume_of volume_parts

abbrev pub tag_of : List ℕ × List ℕ → Tag
tag_of x = record { name = x.0; vid = x.1 }

abbrev pub tag_parts : Tag → List ℕ × List ℕ
tag_parts g = (g.name, g.vid)

-- a tag: its name (its key), its volume
unfoldable pub tag_bytes : Codec Tag
tag_bytes = viewed (pair (reserved (padded 32)) id_bytes) tag_of tag_parts

-- log up, LSN down
unfoldable pub log_lsn_bytes : Codec (List ℕ × ℕ)
log_lsn_bytes = reserved (pair id_bytes (complement 8))

-- log up, page up, LSN down
unfoldable pub log_page_lsn_bytes : Codec (List ℕ × (ℕ × ℕ))
log_page_lsn_bytes = reserved (pair id_bytes (pair (number 4) (complement 8)))

-- segment up, page down
unfoldable pub sid_page_bytes : Codec (List ℕ × ℕ)
sid_page_bytes = reserved (pair id_bytes (complement 4))

abbrev pub checkpoint_of : List ℕ × ℕ → Checkpoint
checkpoint_of x = record { log = x.0; lsn = x.1 }

abbrev pub checkpoint_parts : Checkpoint → List ℕ × ℕ
checkpoint_parts k = (k.log, k.lsn)

-- a checkpoint is its key
unfoldable pub checkpoint_bytes : Codec Checkpoint
checkpoint_bytes = viewed log_lsn_bytes checkpoint_of checkpoint_parts

abbrev pub entry_of : List ℕ × (ℕ × ℕ) → Entry
entry_of x = record { log = x.0; page = x.1.0; lsn = x.1.1 }

abbrev pub entry_parts : Entry → List ℕ × (ℕ × ℕ)
entry_parts e = (e.log, (e.page, e.lsn))

-- an index entry is its key
unfoldable pub entry_bytes : Codec Entry
entry_bytes = viewed log_page_lsn_bytes entry_of entry_parts

abbrev pub present_of : List ℕ × ℕ → Present
present_of x = record { sid = x.0; page = x.1 }

abbrev pub present_parts : Present → List ℕ × ℕ
present_parts p = (p.sid, p.page)

-- a present page is its key
unfoldable pub present_bytes : Codec Present
present_bytes = viewed sid_page_bytes present_of present_parts

abbrev pub commit_of : (List ℕ × ℕ) × (ℕ × (Option (List ℕ) × (Option Segment × List ℕ))) → Commit
commit_of x = record { log = x.0.0; lsn = x.0.1; count = x.1.0; hash = x.1.1.0; segment = x.1.1.1.0; checkpoints = x.1.1.1.1 }

abbrev pub commit_parts : Commit → (List ℕ × ℕ) × (ℕ × (Option (List ℕ) × (Option Segment × List ℕ)))
commit_parts c = ((c.log, c.lsn), (c.count, (c.hash, (c.segment, c.checkpoints))))

-- a commit: its log and LSN (its key), its page count, its hash and its segment, which may be missing, at most 8 checkpoints
unfoldable pub commit_bytes : Codec Commit
commit_bytes = viewed (pair log_lsn_bytes (pair (number 4) (pair (optional hash_bytes) (pair (optional segment_bytes) (listed (number 8) 8))))) commit_of commit_parts
