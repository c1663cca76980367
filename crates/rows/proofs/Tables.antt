-- The six tables: the order of each key's bytes by its parts, the layout of each record, and the bytes that name a key. What is in document 01's form is
-- within the limits of its bytes, so its key is.
use Rattle.std.proofs.Common.{◌≡◌, ◌^◌, ◌<◌, ◌≤◌, true, ◌&&◌, ◌∷◌, length, refl, arith, leb-true}
use Rattle.basics.specs.Orders.{bytes, log_lsn, log_page_lsn, sid_page}
use Rattle.basics.proofs.OrderLaws.{bytes_lawful, log_lsn_lawful, log_page_lsn_lawful, sid_page_lawful}
use Rattle.rules.specs.Records.{Id, Name, LogLsn, LogPageLsn, SidPage, Commit, Volume, Entry, Checkpoint, Present, Tag, commit_key, checkpoint_key, entry_key, present_key, volume_key, tag_key}
use Rattle.rules.specs.Forms.{id_form, lsn_form, name_form, name_length, commit_form, checkpoint_form, entry_form, present_form, volume_form, tag_form}
use Rattle.rules.proofs.TableLaws.{and_fst, and_snd}
use Rattle.layout.specs.Codecs.{number, padded, reserved, optional, listed, pair}
use Rattle.layout.specs.Values.{id_bytes, window_bytes, set_bytes, frame_bytes, frames_bytes, segment_bytes}
use Rattle.layout.specs.Records.{volume_of, volume_parts, tag_of, tag_parts, checkpoint_of, checkpoint_parts, entry_of, entry_parts, present_of, present_parts, commit_of, commit_parts, hash_bytes, sync_bytes, pending_bytes, volume_bytes, tag_bytes, log_lsn_bytes, log_page_lsn_bytes, sid_page_bytes, checkpoint_bytes, entry_bytes, present_bytes, commit_bytes}
use Rattle.layout.proofs.FormHolds.{bytes_held, lsn_bound, page_bound, volume_held, tag_held, commit_held, checkpoint_held, entry_held, present_held}
use Rattle.rows.proofs.Rows.{Layout}
use Rattle.rows.proofs.Finds.{Names}
use Rattle.rows.proofs.KeyOrders.{KeyOrder, Fronted, raw_order, number_order, complement_order, padded_order, reserved_order, pair_order, pair_front, whole_front, own_names, front_layout}

-- ---- the keys

-- an identifier has 16 bytes
abbrev pub OkId : Id → Type 0
OkId x = length x ≡ 16

-- a name at most 32
abbrev pub OkName : Name → Type 0
OkName x = length x ≤ 32

-- an LSN has 8 bytes, a page 4
abbrev OkLogLsn : LogLsn → Type 0
OkLogLsn x = OkId x.0 × (x.1 < 256 ^ 8)

abbrev OkLogPageLsn : LogPageLsn → Type 0
OkLogPageLsn x = OkId x.0 × ((x.1.0 < 256 ^ 4) × (x.1.1 < 256 ^ 8))

abbrev OkSidPage : SidPage → Type 0
OkSidPage x = OkId x.0 × (x.1 < 256 ^ 4)

id_order : KeyOrder (reserved id_bytes) OkId bytes
id_order = reserved_order (raw_order 16)

name_order : KeyOrder (reserved (padded 32)) OkName bytes
name_order = reserved_order (padded_order 32 (omega arith))

log_lsn_order : KeyOrder log_lsn_bytes OkLogLsn log_lsn
unfolding log_lsn_bytes
log_lsn_order = reserved_order (pair_order (raw_order 16) (complement_order 8))

log_page_lsn_order : KeyOrder log_page_lsn_bytes OkLogPageLsn log_page_lsn
unfolding log_page_lsn_bytes
log_page_lsn_order = reserved_order (pair_order (raw_order 16) (pair_order (number_order 4) (complement_order 8)))

sid_page_order : KeyOrder sid_page_bytes OkSidPage sid_page
unfolding sid_page_bytes
sid_page_order = reserved_order (pair_order (raw_order 16) (complement_order 4))

-- the keys of records in form

id_ok : (x : Id) → id_form x ≡ true → OkId x
id_ok x f = (bytes_held 16 x f).long

volume_ok : (v : Volume) → volume_form v ≡ true → OkId v.vid
unfolding volume_form
volume_ok v f = id_ok v.vid (search (and_fst, f))

name_ok : (x : Name) → name_form x ≡ true → OkName x
unfolding name_form name_length
name_ok x f = leb-true (length x) 32 (search (and_fst, and_snd))

tag_ok : (g : Tag) → tag_form g ≡ true → OkName g.name
unfolding tag_form
tag_ok g f = name_ok g.name (and_fst (name_form g.name) (id_form g.vid) f)

pub commit_ok : (c : Commit) → commit_form c ≡ true → OkLogLsn (commit_key c)
unfolding commit_form
commit_ok c f =
    let h : id_form c.log && lsn_form c.lsn ≡ true = search and_fst depth 7 in
    (id_ok c.log (search (and_fst, h)), lsn_bound c.lsn (search (and_snd, h)))

checkpoint_ok : (k : Checkpoint) → checkpoint_form k ≡ true → OkLogLsn (checkpoint_key k)
unfolding checkpoint_form
checkpoint_ok k f = (id_ok k.log (and_fst (id_form k.log) (lsn_form k.lsn) f), lsn_bound k.lsn (and_snd (id_form k.log) (lsn_form k.lsn) f))

entry_ok : (e : Entry) → entry_form e ≡ true → OkLogPageLsn (entry_key e)
unfolding entry_form
entry_ok e f = (id_ok e.log (search (and_fst, and_snd)), (page_bound e.page (search (and_fst, and_snd)), lsn_bound e.lsn (search (and_fst, and_snd))))

pub present_ok : (p : Present) → present_form p ≡ true → OkSidPage (present_key p)
unfolding present_form
present_ok p f = (id_ok p.sid (search (and_fst, f)), page_bound p.page (search (and_snd, f)))

-- ---- a key stands in front of each record

volume_front : Fronted volume_bytes (reserved id_bytes) volume_form volume_key OkId
unfolding volume_bytes
volume_front = pair_front (reserved id_bytes) volume_form OkId (pair (reserved id_bytes) (pair id_bytes (pair (optional sync_bytes) (optional pending_bytes)))) volume_of volume_parts volume_ok

tag_front : Fronted tag_bytes (reserved (padded 32)) tag_form tag_key OkName
unfolding tag_bytes
tag_front = pair_front (reserved (padded 32)) tag_form OkName id_bytes tag_of tag_parts tag_ok

commit_front : Fronted commit_bytes log_lsn_bytes commit_form commit_key OkLogLsn
unfolding commit_bytes
commit_front = pair_front log_lsn_bytes commit_form OkLogLsn (pair (number 4) (pair (optional hash_bytes) (pair (optional segment_bytes) (listed (number 8) 8)))) commit_of commit_parts commit_ok

checkpoint_front : Fronted checkpoint_bytes log_lsn_bytes checkpoint_form checkpoint_key OkLogLsn
unfolding checkpoint_bytes
checkpoint_front = whole_front log_lsn_bytes checkpoint_form OkLogLsn checkpoint_of checkpoint_parts checkpoint_ok

entry_front : Fronted entry_bytes log_page_lsn_bytes entry_form entry_key OkLogPageLsn
unfolding entry_bytes
entry_front = whole_front log_page_lsn_bytes entry_form OkLogPageLsn entry_of entry_parts entry_ok

present_front : Fronted present_bytes sid_page_bytes present_form present_key OkSidPage
unfolding present_bytes
present_front = whole_front sid_page_bytes present_form OkSidPage present_of present_parts present_ok

-- ---- the bytes of a record

volume_size : volume_bytes.size ≡ 117
unfolding volume_bytes sync_bytes pending_bytes
volume_size = refl

tag_size : tag_bytes.size ≡ 50
unfolding tag_bytes
tag_size = refl

pub commit_size : commit_bytes.size ≡ 722
unfolding commit_bytes log_lsn_bytes segment_bytes set_bytes frames_bytes window_bytes frame_bytes
commit_size = refl

checkpoint_size : checkpoint_bytes.size ≡ 25
unfolding checkpoint_bytes log_lsn_bytes
checkpoint_size = refl

entry_size_lem : entry_bytes.size ≡ 29
unfolding entry_bytes log_page_lsn_bytes
entry_size_lem = refl

present_size : present_bytes.size ≡ 21
unfolding present_bytes sid_page_bytes
present_size = refl

-- ---- the layouts

pub volumes : Layout volume_bytes 117 17 volume_form volume_key bytes
volumes = front_layout volume_front id_order bytes_lawful 117 volume_size (omega arith) (omega arith) volume_held

pub tags : Layout tag_bytes 50 34 tag_form tag_key bytes
tags = front_layout tag_front name_order bytes_lawful 50 tag_size (omega arith) (omega arith) tag_held

pub commits : Layout commit_bytes 722 25 commit_form commit_key log_lsn
unfolding log_lsn_bytes
commits = front_layout commit_front log_lsn_order log_lsn_lawful 722 commit_size (omega arith) (omega arith) commit_held

pub checkpoints : Layout checkpoint_bytes 25 25 checkpoint_form checkpoint_key log_lsn
unfolding log_lsn_bytes
checkpoints = front_layout checkpoint_front log_lsn_order log_lsn_lawful 25 checkpoint_size (omega arith) (omega arith) checkpoint_held

pub index : Layout entry_bytes 29 29 entry_form entry_key log_page_lsn
unfolding log_page_lsn_bytes
index = front_layout entry_front log_page_lsn_order log_page_lsn_lawful 29 entry_size_lem (omega arith) (omega arith) entry_held

pub presence : Layout present_bytes 21 21 present_form present_key sid_page
unfolding sid_page_bytes
presence = front_layout present_front sid_page_order sid_page_lawful 21 present_size (omega arith) (omega arith) present_held

-- ---- a key's bytes name it

pub volume_key_lem : (vid : Id) → OkId vid → Names volumes (0 ∷ vid) vid
volume_key_lem vid h = own_names volume_front id_order vid h

pub tag_key_lem : (name : Name) → OkName name → Names tags ((reserved (padded 32)).spell name) name
tag_key_lem name h = own_names tag_front name_order name h

pub commit_key_lem : (x : LogLsn) → OkLogLsn x → Names commits (log_lsn_bytes.spell x) x
unfolding log_lsn_bytes
commit_key_lem x h = own_names commit_front log_lsn_order x h

pub checkpoint_key_lem : (x : LogLsn) → OkLogLsn x → Names checkpoints (log_lsn_bytes.spell x) x
unfolding log_lsn_bytes
checkpoint_key_lem x h = own_names checkpoint_front log_lsn_order x h

pub entry_key_lem : (x : LogPageLsn) → OkLogPageLsn x → Names index (log_page_lsn_bytes.spell x) x
unfolding log_page_lsn_bytes
entry_key_lem x h = own_names entry_front log_page_lsn_order x h

pub present_key_lem : (x : SidPage) → OkSidPage x → Names presence (sid_page_bytes.spell x) x
unfolding sid_page_bytes
present_key_lem x h = own_names present_front sid_page_order x h
