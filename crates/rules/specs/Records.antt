-- What the tester's bookkeeping holds: the records, their keys, and the order of the keys in each table.
use Rattle.std.specs.Prelude.{ℕ, List}
use Rattle.std.proofs.Math.Option.{Option}
use Rattle.pageset.specs.declared.Window.{Window}

-- identifiers are sixteen bytes, compared byte by byte
abbrev pub Id : Type 0
Id = List ℕ

-- a commit hash is 32 bytes
abbrev pub Hash : Type 0
Hash = List ℕ

-- a tag name is 1 to 32 bytes
abbrev pub Name : Type 0
Name = List ℕ

-- a page set is held as windows
abbrev pub Pages : Type 0
Pages = List Window

-- a frame of a segment: its size in bytes, and its last page
pub record Frame : Type 0 where
  pub size : ℕ
  pub last : ℕ

-- a segment: its identifier, its page set and its frames
pub record Segment : Type 0 where
  pub sid : Id
  pub pages : Pages
  pub frames : List Frame

-- a commit's hash and its segment may be missing
pub record Commit : Type 0 where
  pub log : Id
  pub lsn : ℕ
  pub count : ℕ
  pub hash : Option Hash
  pub segment : Option Segment
  pub checkpoints : List ℕ

-- the remote LSN that was synced, and the watermark: the local LSN that was pushed, which may be missing
pub record SyncPoint : Type 0 where
  pub remote : ℕ
  pub watermark : Option ℕ

-- a prepared push: the local LSN, the LSN of the remote commit, and its hash
pub record Pending : Type 0 where
  pub local : ℕ
  pub commit : ℕ
  pub hash : Hash

-- a volume's sync point and its pending commit may be missing
pub record Volume : Type 0 where
  pub vid : Id
  pub local : Id
  pub remote : Id
  pub sync : Option SyncPoint
  pub pending : Option Pending

-- an entry of the page index: the log's commit at that LSN holds the page
pub record Entry : Type 0 where
  pub log : Id
  pub page : ℕ
  pub lsn : ℕ

-- an entry of the checkpoints: the log has a checkpoint at that LSN
pub record Checkpoint : Type 0 where
  pub log : Id
  pub lsn : ℕ

-- an entry of the presence table: the segment's page is here
pub record Present : Type 0 where
  pub sid : Id
  pub page : ℕ

-- a tag: its name, and the volume that it names
pub record Tag : Type 0 where
  pub name : Name
  pub vid : Id

-- a log and a range of its LSNs, both ends included
pub record Range : Type 0 where
  pub log : Id
  pub start : ℕ
  pub end : ℕ

-- a snapshot: its path of ranges, and its page count
pub record Snapshot : Type 0 where
  pub path : List Range
  pub count : ℕ

-- ---- the keys of the six tables; their orders are those of the crate basics

-- the key of commits and checkpoints
abbrev pub LogLsn : Type 0
LogLsn = Id × ℕ

-- the key of the index
abbrev pub LogPageLsn : Type 0
LogPageLsn = Id × (ℕ × ℕ)

-- the key of presence
abbrev pub SidPage : Type 0
SidPage = Id × ℕ

-- commits: log up, LSN down (the order `log_lsn`)
abbrev pub commit_key : Commit → LogLsn
commit_key c = (c.log, c.lsn)

-- checkpoints: the same
abbrev pub checkpoint_key : Checkpoint → LogLsn
checkpoint_key k = (k.log, k.lsn)

-- index: log up, page up, LSN down (the order `log_page_lsn`)
abbrev pub entry_key : Entry → LogPageLsn
entry_key e = (e.log, (e.page, e.lsn))

-- presence: segment up, page down (the order `sid_page`)
abbrev pub present_key : Present → SidPage
present_key p = (p.sid, p.page)

-- volumes and tags: key up (a name that begins another comes first)
abbrev pub volume_key : Volume → Id
volume_key v = v.vid

-- the key of a tag
abbrev pub tag_key : Tag → Name
tag_key g = g.name
