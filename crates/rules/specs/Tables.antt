-- Tables: ordered lists of records, with room for a number of them; the lookups that every call goes by.
use Rattle.std.specs.Prelude.{ℕ, min, Bool, true, not, ◌&&◌, List, [], ◌∷◌, length, nat_le}
use Prim.Native.Nat.{Ordering}
use Rattle.std.proofs.Math.Option.{Option, map}
use Rattle.std.proofs.Math.Dec.{compare_is_eq}
use Rattle.rules.specs.Lists.{first, those, all}
use Rattle.basics.specs.Orders.{bytes, is_lt, log_lsn, log_page_lsn, sid_page}
use Rattle.rules.specs.Records.{Id, Name, Commit, Volume, Entry, Checkpoint, Present, Tag, commit_key, checkpoint_key, entry_key, present_key, volume_key, tag_key}
use Rattle.rules.specs.Forms.{commit_form, checkpoint_form, entry_form, present_form, volume_form, tag_form}

-- a lent table: its records, and the whole records that fit
pub record Table (R : Type 0) : Type 0 where
  pub room : ℕ
  pub rows : List R

module _ {R : Type 0} where
  -- capacity is the whole records that fit, at most 65,535
  abbrev pub capacity : Table R → ℕ
  capacity t = min t.room 65535

  -- the records that it holds do not exceed its capacity
  unfoldable pub fits : Table R → Bool
  fits t = nat_le (length t.rows) (capacity t)

  -- the table with other records
  abbrev pub over : Table R → List R → Table R
  over t rows = record { room = t.room; rows = rows }

  -- r goes before x, in its place, or behind it (`more` is what is behind x then)
  abbrev pub placed : Ordering → R → R → List R → List R → List R
  placed Ordering.lt r x xs more = r ∷ x ∷ xs
  placed Ordering.eq r x xs more = r ∷ xs
  placed Ordering.gt r x xs more = x ∷ more

module _ {R K : Type 0} (key : R → K) (order : K → K → Ordering) where
  -- the keys strictly rise: each record's key is below that of every later record
  unfoldable pub in_order : List R → Bool
  in_order [] = true
  in_order (x ∷ xs) = all (λ y. is_lt (order (key x) (key y))) xs && in_order xs

  -- the record of a key
  unfoldable pub get : K → List R → Option R
  get k l = first (λ r. compare_is_eq (order k (key r))) l

  -- a record put in, in place of the one of its key where there is one
  unfoldable pub put : R → List R → List R
  put r [] = r ∷ []
  put r (x ∷ xs) = placed (order (key r) (key x)) r x xs (put r xs)

  -- several, one after the other
  unfoldable pub put_all : List R → List R → List R
  put_all [] l = l
  put_all (r ∷ rs) l = put_all rs (put r l)

  -- 20: a table's count, its key order, the form of each field
  unfoldable pub formed : (R → Bool) → Table R → Bool
  formed form t = fits t && in_order t.rows && all form t.rows

  -- a table with a record stored
  abbrev pub store : R → Table R → Table R
  store r t = over t (put r t.rows)

  -- a table with several records stored
  abbrev pub store_all : List R → Table R → Table R
  store_all rs t = over t (put_all rs t.rows)

-- a table without the records that pass a test
abbrev pub remove : {R : Type 0} → (R → Bool) → Table R → Table R
remove f t = over t (those (λ r. not (f r)) t.rows)

-- ---- the six tables, as 20 asks them

-- commits
abbrev pub commits_formed : Table Commit → Bool
commits_formed cs = formed commit_key log_lsn commit_form cs

-- checkpoints
abbrev pub checkpoints_formed : Table Checkpoint → Bool
checkpoints_formed ks = formed checkpoint_key log_lsn checkpoint_form ks

-- index
abbrev pub index_formed : Table Entry → Bool
index_formed es = formed entry_key log_page_lsn entry_form es

-- presence
abbrev pub presence_formed : Table Present → Bool
presence_formed ps = formed present_key sid_page present_form ps

-- volumes
abbrev pub volumes_formed : Table Volume → Bool
volumes_formed vs = formed volume_key bytes volume_form vs

-- tags
abbrev pub tags_formed : Table Tag → Bool
tags_formed gs = formed tag_key bytes tag_form gs

-- ---- lookups: the record or nothing

-- identifiers are compared byte by byte
abbrev pub same_id : Id → Id → Bool
same_id a b = compare_is_eq (bytes a b)

-- the volume of an identifier
abbrev pub get_volume : Table Volume → Id → Option Volume
get_volume vs vid = get volume_key bytes vid vs.rows

-- the commit of a log at an LSN
abbrev pub get_commit : Table Commit → Id → ℕ → Option Commit
get_commit cs log lsn = get commit_key log_lsn (log, lsn) cs.rows

-- the tag of a name
abbrev pub get_tag : Table Tag → Name → Option Tag
get_tag gs name = get tag_key bytes name gs.rows

-- the entry of a segment's page
abbrev pub get_present : Table Present → Id → ℕ → Option Present
get_present ps sid page = get present_key sid_page (sid, page) ps.rows

-- a log's latest commit is its first: LSNs go down
abbrev pub latest : Table Commit → Id → Option Commit
latest cs log = first (λ c. same_id log c.log) cs.rows

-- latest LSN is the log's highest
abbrev pub latest_lsn : Table Commit → Id → Option ℕ
latest_lsn cs log = map (λ (c : Commit). c.lsn) (latest cs log)

-- checkpoint lookup: the highest at or below an LSN
abbrev pub checkpoint_at : Table Checkpoint → Id → ℕ → Option Checkpoint
checkpoint_at ks log lsn = first (λ k. same_id log k.log && nat_le k.lsn lsn) ks.rows
