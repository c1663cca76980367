-- Reads, lists, removals, present pages and tags.
use Rattle.std.specs.Prelude.{ℕ, Bool, ◌&&◌, List, map, length, nat_le}
use Rattle.std.proofs.Math.Option
use Rattle.std.proofs.Math.Option.{Option}
use Rattle.basics.specs.Answers.{Answer, done, ask, need, ◌>>=◌, ◌>>◌}
use Rattle.basics.specs.Numbers.{counts}
use Rattle.rules.specs.Lists.{those, is_some}
use Rattle.basics.specs.Orders.{bytes, sid_page}
use Rattle.rules.specs.Records.{Id, Name, Commit, Volume, Checkpoint, Present, Tag, Range, present_key, tag_key}
use Rattle.rules.specs.Forms.{name_length}
use Rattle.rules.specs.Tables.{Table, fits, store, remove, commits_formed, checkpoints_formed, presence_formed, volumes_formed, tags_formed, same_id, get_volume, get_commit, get_tag, get_present, latest, latest_lsn, checkpoint_at}
use Rattle.rules.specs.Walk.{in_range}

-- ---- volumes

-- reads answer the record (a volume: or 4)
unfoldable pub volume_read : Table Volume → Id → Answer Volume
volume_read vs vid = do
  ask (volumes_formed vs) 20
  need (get_volume vs vid) 4

-- whether a volume is stored
unfoldable pub volume_exists : Table Volume → Id → Answer Bool
volume_exists vs vid = do
  ask (volumes_formed vs) 20
  done (is_some (get_volume vs vid))

-- lists go in key order
unfoldable pub volume_list : Table Volume → ℕ → Answer (List Volume)
volume_list vs slots = do
  ask (volumes_formed vs) 20
  ask (nat_le (length vs.rows) slots) 19
  done vs.rows

-- removals succeed when nothing is there
unfoldable pub volume_delete : Table Volume → Id → Answer (Table Volume)
volume_delete vs vid = do
  ask (volumes_formed vs) 20
  done (remove (λ v. same_id vid v.vid) vs)

-- ---- commits and checkpoints

-- reads answer the record or nothing
unfoldable pub commit_read : Table Commit → Id → ℕ → Answer (Option Commit)
commit_read cs log lsn = do
  ask (commits_formed cs) 20
  ask (counts lsn) 1
  done (get_commit cs log lsn)

-- latest LSN is the log's highest
unfoldable pub latest_lsn_read : Table Commit → Id → Answer (Option ℕ)
latest_lsn_read cs log = do
  ask (commits_formed cs) 20
  done (latest_lsn cs log)

-- the log's latest commit
unfoldable pub latest_commit_read : Table Commit → Id → Answer (Option Commit)
latest_commit_read cs log = do
  ask (commits_formed cs) 20
  done (latest cs log)

-- the page count at an LSN
unfoldable pub page_count_read : Table Commit → Id → ℕ → Answer (Option ℕ)
page_count_read cs log lsn = do
  ask (commits_formed cs) 20
  ask (counts lsn) 1
  done (Option.map (λ (c : Commit). c.count) (get_commit cs log lsn))

-- checkpoint lookup: the highest at or below an LSN
unfoldable pub checkpoint_read : Table Checkpoint → Id → ℕ → Answer (Option ℕ)
checkpoint_read ks log lsn = do
  ask (checkpoints_formed ks) 20
  ask (counts lsn) 1
  done (Option.map (λ (k : Checkpoint). k.lsn) (checkpoint_at ks log lsn))

-- the stored LSNs of a range, in key order: falling
abbrev pub lsns_in : Table Commit → Range → List ℕ
lsns_in cs r = map (λ (c : Commit). c.lsn) (those (in_range r) cs.rows)

-- the stored LSNs of a range as a call, into a lent list of `slots` places
unfoldable pub stored_lsns : Table Commit → ℕ → Range → Answer (List ℕ)
stored_lsns cs slots r = do
  ask (commits_formed cs) 20
  ask (counts r.start && counts r.end) 1
  ask (nat_le r.start r.end) 2
  ask (nat_le (length (lsns_in cs r)) slots) 19
  done (lsns_in cs r)

-- ---- present pages

-- whether a page is present
unfoldable pub page_present : Table Present → Id → ℕ → Answer Bool
page_present ps sid page = do
  ask (presence_formed ps) 20
  ask (counts page) 1
  done (is_some (get_present ps sid page))

-- marking a page present succeeds when it already is
unfoldable pub page_mark : Table Present → Id → ℕ → Answer (Table Present)
page_mark ps sid page = do
  ask (presence_formed ps) 20
  ask (counts page) 1
  let ps' = store present_key sid_page (record { sid = sid; page = page }) ps
  ask (fits ps') 19
  done ps'

-- the segment's present pages from a to b
abbrev pub present_in : Id → ℕ → ℕ → Present → Bool
present_in sid a b p = same_id sid p.sid && nat_le a p.page && nat_le p.page b

-- one page removed
unfoldable pub page_remove : Table Present → Id → ℕ → Answer (Table Present)
page_remove ps sid page = do
  ask (presence_formed ps) 20
  ask (counts page) 1
  done (remove (present_in sid page page) ps)

-- the pages from a to b removed
unfoldable pub pages_remove : Table Present → Id → ℕ → ℕ → Answer (Table Present)
pages_remove ps sid a b = do
  ask (presence_formed ps) 20
  ask (counts a && counts b) 1
  ask (nat_le a b) 2
  done (remove (present_in sid a b) ps)

-- ---- tags

-- the volume that a tag names
abbrev pub tagged : Table Tag → Name → Option Id
tagged gs name = Option.map (λ (g : Tag). g.vid) (get_tag gs name)

-- the volume that a tag names, or nothing
unfoldable pub tag_read : Table Tag → Name → Answer (Option Id)
tag_read gs name = do
  ask (tags_formed gs) 20
  ask (name_length name) 1
  done (tagged gs name)

-- whether a tag is stored
unfoldable pub tag_exists : Table Tag → Name → Answer Bool
tag_exists gs name = do
  ask (tags_formed gs) 20
  ask (name_length name) 1
  done (is_some (get_tag gs name))

-- the tags, in key order
unfoldable pub tag_list : Table Tag → ℕ → Answer (List Tag)
tag_list gs slots = do
  ask (tags_formed gs) 20
  ask (nat_le (length gs.rows) slots) 19
  done gs.rows

-- a tag removed
unfoldable pub tag_delete : Table Tag → Name → Answer (Table Tag)
tag_delete gs name = do
  ask (tags_formed gs) 20
  ask (name_length name) 1
  done (remove (λ g. same_id name g.name) gs)

-- tag replacement answers the earlier volume or nothing
unfoldable pub tag_replace : Table Tag → Name → Id → Answer (Option Id × Table Tag)
tag_replace gs name vid = do
  ask (tags_formed gs) 20
  ask (name_length name) 1
  let gs' = store tag_key bytes (record { name = name; vid = vid }) gs
  ask (fits gs') 19
  done (tagged gs name, gs')
