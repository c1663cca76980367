-- T5, the frame theorem: what a call leaves of every record that it does not name. t is the tables before the call, u those after it.
use Rattle.std.specs.Prelude.{◌≡◌, ℕ, true, false}
use Rattle.std.proofs.Math.Option.{some}
use Rattle.basics.specs.Orders.{log_lsn}
use Rattle.rules.specs.Lists.{is_some}
use Rattle.rules.specs.Records.{Id, Name, Volume, checkpoint_key}
use Rattle.rules.specs.Tables.{get, get_volume, get_commit, get_present, get_tag}
use Rattle.rules.specs.Demand.{listed}
use Rattle.rules.specs.Calls.{Tables, Change}
use Rattle.rules.specs.Named.{stores_at, names_volume, deletes_volume, VolumeKept, marks, unmarks, names_tag}

pub record Keeps (t : Tables) (c : Change) (u : Tables) : Type 0 where
  -- no call removes a commit, an index entry or a checkpoint entry
  pub commit_stays : (log : Id) (lsn : ℕ) → is_some (get_commit t.logs.commits log lsn) ≡ true → is_some (get_commit u.logs.commits log lsn) ≡ true
  pub entry_stays : (log : Id) (p lsn : ℕ) → listed t.logs.index log p lsn ≡ true → listed u.logs.index log p lsn ≡ true
  pub checkpoint_stays : (log : Id) (lsn : ℕ) → is_some (get checkpoint_key log_lsn (log, lsn) t.logs.checkpoints.rows) ≡ true → is_some (get checkpoint_key log_lsn (log, lsn) u.logs.checkpoints.rows) ≡ true
  -- commits, and their index entries, are stored only at the keys that it names
  pub commit_untouched : (log : Id) (lsn : ℕ) → stores_at t c (log, lsn) ≡ false → get_commit u.logs.commits log lsn ≡ get_commit t.logs.commits log lsn
  pub entry_untouched : (log : Id) (p lsn : ℕ) → stores_at t c (log, lsn) ≡ false → listed u.logs.index log p lsn ≡ listed t.logs.index log p lsn
  -- only volume delete removes a volume, and a stored one keeps its logs, and its pending commit and its sync point but where the call may change them
  pub volume_stays : (vid : Id) (v : Volume) → deletes_volume c ≡ false → get_volume t.volumes vid ≡ some v → (w : Volume) × (get_volume u.volumes vid ≡ some w) × VolumeKept c v w
  pub volume_untouched : (vid : Id) → names_volume c vid ≡ false → get_volume u.volumes vid ≡ get_volume t.volumes vid
  -- only the page removals unmark a page, and a page that the call neither marks nor unmarks is as it was
  pub page_stays : (sid : Id) (page : ℕ) → unmarks c (sid, page) ≡ false → is_some (get_present t.presence sid page) ≡ true → is_some (get_present u.presence sid page) ≡ true
  pub page_untouched : (sid : Id) (page : ℕ) → marks c (sid, page) ≡ false → unmarks c (sid, page) ≡ false → get_present u.presence sid page ≡ get_present t.presence sid page
  -- only tag delete and replacement change a tag, and only the one that they name
  pub tag_untouched : (name : Name) → names_tag c name ≡ false → get_tag u.tags name ≡ get_tag t.tags name
