-- Document 01's bench readings P1 to P12, and its example of a call list, as statements about the definitions.
use Rattle.std.specs.Prelude.{◌≡◌, ℕ, ◌^◌, List, [], ◌∷◌, ◌++◌, length, set, replicate, slice_index_or, slice_set}
use Rattle.std.proofs.Math.Option.{Option, none, some}
use Rattle.basics.specs.Answers.{Answer, refused, done, code}
use Rattle.pageset.specs.declared.Window.{Window}
use Rattle.rules.specs.Records.{Id, Pages, Segment, Commit, Volume, Entry, Range, Snapshot, LogLsn, commit_key}
use Rattle.rules.specs.Pages.{pages_in, size, truncated, range_of, built_range}
use Rattle.rules.specs.Tables.{Table}
use Rattle.rules.specs.Frames.{frame_list, frame_of}
use Rattle.rules.specs.Open.{open_volume}
use Rattle.rules.specs.Snapshots.{empty_snapshot, snapshot}
use Rattle.rules.specs.Save.{save}
use Rattle.rules.specs.Sync.{sync}
use Rattle.rules.specs.Walk.{Item, walk_of}
use Rattle.rules.specs.Search.{search_page}
use Rattle.rules.specs.Calls.{Tables, fresh, empty, with_volumes, with_logs, with_presence}

-- an identifier by its last byte, the rest zero
abbrev pub ident : ℕ → Id
ident n = replicate 15 0 ++ (n ∷ [])

-- window q with that mask
abbrev pub window : ℕ → ℕ → Window
window q m = record { index = q; mask = m }

-- ---- the bench readings

-- page 63: window 0 bit 63
abbrev pub P1 : Type 0
P1 = pages_in (window 0 (2 ^ 63) ∷ []) ≡ 63 ∷ []

-- page 64: window 1 bit 0
abbrev pub P2 : Type 0
P2 = pages_in (window 1 1 ∷ []) ≡ 64 ∷ []

-- page 4294967295: window 67108863 bit 63
abbrev pub P3 : Type 0
P3 = pages_in (window 67108863 (2 ^ 63) ∷ []) ≡ 4294967295 ∷ []

-- range 1 to 2047: 32 windows, 2047 pages
abbrev pub P4 : Type 0
P4 = (built_range 1 2047 ≡ done (range_of 1 2047)) × (length (range_of 1 2047) ≡ 32) × (size (range_of 1 2047) ≡ 2047)

-- range 1 to 2048: 22
abbrev pub P5 : Type 0
P5 = built_range 1 2048 ≡ refused 22

-- {3,4,5} truncated to 4: {3,4}
abbrev pub P6 : Type 0
P6 = truncated (range_of 3 5) 4 ≡ range_of 3 4

-- {4294967295} truncated to 4294967295: unchanged
abbrev pub P7 : Type 0
P7 = truncated (range_of 4294967295 4294967295) 4294967295 ≡ range_of 4294967295 4294967295

-- set {2,3,5,9}, frames (size 100, last 3), (50, 9)
abbrev pub segment : Segment
segment = record { sid = ident 5; pages = window 0 0b1000101100 ∷ []; frames = record { size = 100; last = 3 } ∷ record { size = 50; last = 9 } ∷ [] }

-- bytes 0 to 100 exclusive with {2,3}, 100 to 150 with {5,9}
abbrev pub P8 : Type 0
P8 = frame_list segment ≡ done (record { sid = ident 5; start = 0; end = 100; pages = window 0 0b1100 ∷ [] } ∷ record { sid = ident 5; start = 100; end = 150; pages = window 0 0b1000100000 ∷ [] } ∷ [])

-- page 4: no frame
abbrev pub P9 : Type 0
P9 = frame_of segment 4 ≡ done none

-- a volume with sync 7, watermark 3, and commits without pages
abbrev pub volumes : Table Volume
volumes = record { room = 4; rows = record { vid = ident 1; local = ident 10; remote = ident 11; sync = some (record { remote = 7; watermark = some 3 }); pending = none } ∷ [] }

-- a commit without pages
abbrev pub bare : ℕ → ℕ → ℕ → Commit
bare log lsn count = record { log = ident log; lsn = lsn; count = count; hash = none; segment = none; checkpoints = [] }

-- a table of commits
abbrev pub commits : List Commit → Table Commit
commits cs = record { room = 32; rows = cs }

-- a range of a log
abbrev pub range : ℕ → ℕ → ℕ → Range
range log start end = record { log = ident log; start = start; end = end }

-- local latest 5: local 4 to 5, remote 1 to 7
abbrev pub P10 : Type 0
P10 = snapshot volumes (commits (bare 10 5 20 ∷ [])) (ident 1) ≡ done (record { path = range 10 4 5 ∷ range 11 1 7 ∷ []; count = 20 })

-- local latest 3, remote commit 7 stored: remote 1 to 7 only
abbrev pub P11 : Type 0
P11 = snapshot volumes (commits (bare 10 3 20 ∷ bare 11 7 30 ∷ [])) (ident 1) ≡ done (record { path = range 11 1 7 ∷ []; count = 30 })

-- local latest 3, remote commit 7 not stored: empty
abbrev pub P12 : Type 0
P12 = snapshot volumes (commits (bare 10 3 20 ∷ [])) (ident 1) ≡ done empty_snapshot

-- ---- the example of a call list

-- a line of it
pub data Line : Type 0 where
  opens : Id → Id → Id → Line
  snaps : Id → ℕ → Line
  saves : Id → ℕ → ℕ → Id → Pages → Line
  finds : ℕ → ℕ → Line

-- the tables, and slots 0 to 3
pub record State : Type 0 where
  pub tables : Tables
  pub slots : List Snapshot

-- volumes 4, commits 32, checkpoints 32, index 512, presence 512, tags 4
abbrev pub begin : State
begin = record { tables = fresh 4 32 32 512 512 4; slots = replicate 4 empty_snapshot }

-- log and LSN of the snapshot's head
abbrev pub head_of : List Range → Option LogLsn
head_of [] = none
head_of (r ∷ rs) = some (r.log, r.end)

-- log and LSN of the found commit
abbrev pub found_key : Option Commit → Option LogLsn
found_key none = none
found_key (some c) = some (commit_key c)

-- what a line prints, the code and then log and LSN, and the state after it
abbrev pub prints : {A : Type 0} → State → (A → Option LogLsn) → (A → State) → Answer A → (ℕ × Option LogLsn) × State
prints st f g (refused n) = ((n, none), st)
prints st f g (done a) = ((0, f a), g a)

-- the state with other tables
abbrev pub changed : State → Tables → State
changed st t = record { tables = t; slots = st.slots }

-- the state with a snapshot in a slot
abbrev pub in_slot : State → ℕ → Snapshot → State
in_slot st n s = record { tables = st.tables; slots = slice_set st.slots n s }

-- a line run
abbrev pub step : State → Line → (ℕ × Option LogLsn) × State
step st (opens vid local remote) =
    let t = st.tables in
    prints st (λ r. none) (λ r. changed st (with_volumes t r.1))
    (open_volume t.volumes t.logs.commits (record { vid = some vid; local = some local; remote = some remote }) (record { vid = vid; local = local; remote = remote }))
step st (snaps vid n) = let t = st.tables in prints st (λ s. head_of s.path) (in_slot st n) (snapshot t.volumes t.logs.commits vid)
step st (saves vid n count sid pages) =
    let t = st.tables in
    prints st (λ r. head_of r.0.path) (λ r. changed st (with_presence (with_logs t r.1) r.2)) (save t.volumes t.logs t.presence vid (slice_index_or st.slots n empty_snapshot) count sid pages)
step st (finds n p) = let t = st.tables in prints st found_key (λ o. st) (search_page t.logs.commits t.logs.index (slice_index_or st.slots n empty_snapshot) p)

-- lines run one after the other
abbrev pub run : State → List Line → List (ℕ × Option LogLsn)
run st [] = []
run st (l ∷ ls) = let r = step st l in r.0 ∷ run r.1 ls

-- the eight lines
abbrev pub example : List Line
example =
    opens (ident 0x01) (ident 0x0a) (ident 0x0b)
    ∷ snaps (ident 0x01) 0
    ∷ saves (ident 0x01) 0 2 (ident 0x51) (range_of 1 2)
    ∷ snaps (ident 0x01) 1
    ∷ saves (ident 0x01) 1 3 (ident 0x52) (range_of 2 3)
    ∷ saves (ident 0x01) 1 3 (ident 0x53) (range_of 1 1)
    ∷ snaps (ident 0x01) 2
    ∷ finds 2 2
    ∷ []

-- code 0, and an LSN of log 0a
abbrev pub ok : ℕ → ℕ × Option LogLsn
ok lsn = (0, some (ident 0x0a, lsn))

-- what the eight lines print
abbrev pub EightLines : Type 0
EightLines = run begin example ≡ (0, none) ∷ (0, none) ∷ ok 1 ∷ ok 1 ∷ ok 2 ∷ (7, none) ∷ ok 2 ∷ ok 2 ∷ []

-- ---- paths that are strange but valid

-- log a: commit 2 with page 2, commit 1 with pages 1 and 2, and their index
abbrev pub paged : ℕ → ℕ → Commit
paged lsn pages = record { log = ident 10; lsn = lsn; count = 2; hash = none; segment = some (record { sid = ident lsn; pages = window 0 pages ∷ []; frames = [] }); checkpoints = [] }

-- the two, LSN down
abbrev pub two_commits : Table Commit
two_commits = commits (paged 2 0b100 ∷ paged 1 0b110 ∷ [])

-- an index entry of the log
abbrev pub entry_of : ℕ → ℕ → Entry
entry_of page lsn = record { log = ident 10; page = page; lsn = lsn }

-- their index entries, page up, LSN down
abbrev pub their_index : Table Entry
their_index = record { room = 512; rows = entry_of 1 1 ∷ entry_of 2 2 ∷ entry_of 2 1 ∷ [] }

-- an earlier range wins over a higher LSN in a later one
abbrev pub EarlierWins : Type 0
EarlierWins = search_page two_commits their_index (record { path = range 10 1 1 ∷ range 10 2 2 ∷ []; count = 2 }) 2 ≡ done (some (paged 1 0b110))

-- a page that no earlier range has is found in a later one
abbrev pub LaterFound : Type 0
LaterFound = search_page two_commits their_index (record { path = range 10 2 2 ∷ range 10 1 1 ∷ []; count = 2 }) 1 ≡ done (some (paged 1 0b110))

-- each page is given once, also where ranges overlap and a log is named twice
abbrev pub gave : List Item → List (ℕ × Pages)
gave [] = []
gave (i ∷ is) = (i.lsn, i.pages) ∷ gave is

-- commit 2 gets page 2, commit 1 page 1, and neither again
abbrev pub GivenOnce : Type 0
GivenOnce = gave (walk_of two_commits (record { path = range 10 1 2 ∷ range 10 1 2 ∷ []; count = 2 })) ≡ (2, window 0 0b100 ∷ []) ∷ (1, window 0 0b10 ∷ []) ∷ []

-- ---- hypotheses that are needed

-- a commit at or below the watermark is not unsent: local latest 3 at watermark 3, the remote past sync.remote, and sync moves
abbrev pub Sent : Type 0
Sent = code (sync volumes (commits (bare 10 3 20 ∷ bare 11 8 30 ∷ [])) (ident 1)) ≡ 0

-- a save that its own snapshot hides: a watermark at or above the new LSN
abbrev pub hiding : Tables
hiding = record {
  volumes = record { room = 4; rows = record { vid = ident 1; local = ident 10; remote = ident 11; sync = some (record { remote = 1; watermark = some 10 }); pending = none } ∷ [] };
  logs = record { commits = commits (bare 11 1 5 ∷ []); checkpoints = empty 32; index = empty 512 };
  presence = empty 512;
  tags = empty 4;
}

-- snap, save pages 1 to 2, snap, find page 2: not found
abbrev pub Hidden : Type 0
Hidden =
    run (record { tables = hiding; slots = replicate 4 empty_snapshot }) (snaps (ident 1) 0 ∷ saves (ident 1) 0 2 (ident 0x51) (range_of 1 2) ∷ snaps (ident 1) 1 ∷ finds 1 2 ∷ [])
    ≡ (0, some (ident 11, 1)) ∷ (0, some (ident 11, 1)) ∷ (0, some (ident 11, 1)) ∷ (0, none) ∷ []
