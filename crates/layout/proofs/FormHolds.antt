-- What is in document 01's form is held by its byte form: for each record, the limits of its fields are those of its bytes.
use Rattle.std.proofs.Common.{◌≡◌, ℕ, zero, suc, ◌+◌, ◌^◌, ◌<◌, ◌≤◌, Bool, true, not, ◌&&◌, eqb, ltb, leb, List, [], ◌∷◌, length, refl, arith, ltb-true, eqb-true, leb-true}
use mathlib.Core.Option.{Option, none, some}
use Rattle.octets.specs.Bytes.{AreBytes}
use Rattle.basics.specs.Numbers.{last_lsn, last_page, counts}
use Rattle.pageset.specs.declared.Window.{Window}
use Rattle.pageset.specs.Sets.{rising, holds, window_form, window_forms, normal_form}
use Rattle.rules.specs.Lists.{all, given}
use Rattle.rules.specs.Records.{Id, Pages, Frame, Segment, Commit, SyncPoint, Pending, Volume, Entry, Checkpoint, Present, Tag, Range, Snapshot}
use Rattle.rules.specs.Forms as Forms
use Rattle.rules.specs.Frames.{Part}
use Rattle.rules.proofs.TableLaws.{and_fst, and_snd}
use Rattle.layout.specs.Codecs.{Codec, Holds, number, complement, raw, padded, reserved, optional, listed, pair}
use Rattle.layout.specs.Values.{window_of, window_parts, frame_of, frame_parts, segment_of, segment_parts, part_of, part_parts, range_of, range_parts, snapshot_of, snapshot_parts, id_bytes, window_bytes, set_bytes, frame_bytes, frames_bytes, segment_bytes, part_bytes, range_bytes, snapshot_bytes}
use Rattle.layout.specs.Records.{sync_of, sync_parts, pending_of, pending_parts, volume_of, volume_parts, tag_of, tag_parts, checkpoint_of, checkpoint_parts, entry_of, entry_parts, present_of, present_parts, commit_of, commit_parts, hash_bytes, sync_bytes, pending_bytes, volume_bytes, tag_bytes, log_lsn_bytes, log_page_lsn_bytes, sid_page_bytes, checkpoint_bytes, entry_bytes, present_bytes, commit_bytes}
use Rattle.layout.proofs.HoldLaws as H

-- ---- bytes and numbers

all_bytes : (b : List ℕ) → all (λ x. ltb x 256) b ≡ true → AreBytes b
unfolding all
all_bytes [] h i = omega arith
all_bytes (x ∷ b) h zero = ltb-true x 256 (and_fst (ltb x 256) (all (λ x. ltb x 256) b) h)
all_bytes (x ∷ b) h (suc i) = all_bytes b (and_snd (ltb x 256) (all (λ x. ltb x 256) b) h) i

pub bytes_held : (n : ℕ) (b : List ℕ) → Forms.bytes_form n b ≡ true → Holds (raw n) b
unfolding Forms.bytes_form
bytes_held n b h =
    H.raw_holds n b (eqb-true (length b) n (and_fst (eqb (length b) n) (all (λ x. ltb x 256) b) h)) (all_bytes b (and_snd (eqb (length b) n) (all (λ x. ltb x 256) b) h))

pub lsn_bound : (n : ℕ) → Forms.lsn_form n ≡ true → n < 256 ^ 8
unfolding Forms.lsn_form last_lsn
lsn_bound n h = let l = leb-true n last_lsn (and_snd (counts n) (leb n last_lsn) h) in omega arith

pub page_bound : (n : ℕ) → Forms.page_form n ≡ true → n < 256 ^ 4
unfolding Forms.page_form last_page
page_bound n h = let l = leb-true n last_page (and_snd (counts n) (leb n last_page) h) in omega arith

pub count_bound : (n : ℕ) → Forms.count_form n ≡ true → n < 256 ^ 4
unfolding Forms.count_form last_page
count_bound n h = let l = leb-true n last_page h in omega arith

-- a field that may be missing
given_held : {A : Type 0} (c : Codec A) (form : A → Bool) (x : Option A) → ((y : A) → form y ≡ true → Holds c y) → given form x ≡ true → Holds (optional c) x
given_held c form none h g = H.missing_holds c
given_held c form (some y) h g = H.there_holds c y (h y g)

-- ---- sets and segments

window_held : (w : Window) → w.index < 256 ^ 4 → w.mask < 256 ^ 8 → Holds window_bytes w
unfolding window_bytes
window_held w i m = H.viewed_holds (pair (number 4) (number 8)) window_of window_parts w refl (H.pair_holds (number 4) (number 8) w.index w.mask (H.number_holds 4 w.index i) (H.number_holds 8 w.mask m))

windows_held : (ws : List Window) → window_forms ws ≡ true → H.AllHeld window_bytes ws
unfolding window_forms
windows_held [] h = tt
windows_held (w ∷ ws) h =
    let f = and_fst (window_form w) (window_forms ws) h in
    let i = ltb-true w.index (2 ^ 26) (and_snd (ltb 0 w.mask && ltb w.mask (2 ^ 64)) (ltb w.index (2 ^ 26)) f) in
    let m = ltb-true w.mask (2 ^ 64) (and_snd (ltb 0 w.mask) (ltb w.mask (2 ^ 64)) (and_fst (ltb 0 w.mask && ltb w.mask (2 ^ 64)) (ltb w.index (2 ^ 26)) f)) in
    (window_held w (omega arith) (omega arith), windows_held ws (and_snd (window_form w) (window_forms ws) h))

pub set_held : (ws : Pages) → normal_form ws ≡ true → Holds set_bytes ws
unfolding set_bytes normal_form
set_held ws h =
    let abc = and_fst (leb (length ws) 32 && rising 0 ws && window_forms ws) (not (holds ws 0)) h in
    let ab = and_fst (leb (length ws) 32 && rising 0 ws) (window_forms ws) abc in
    H.listed_holds window_bytes 32 ws (leb-true (length ws) 32 (and_fst (leb (length ws) 32) (rising 0 ws) ab)) (omega arith) (windows_held ws (and_snd (leb (length ws) 32 && rising 0 ws) (window_forms ws) abc))

frame_held : (f : Frame) → f.size < 256 ^ 8 → f.last < 256 ^ 4 → Holds frame_bytes f
unfolding frame_bytes
frame_held f s l = H.viewed_holds (pair (number 8) (number 4)) frame_of frame_parts f refl (H.pair_holds (number 8) (number 4) f.size f.last (H.number_holds 8 f.size s) (H.number_holds 4 f.last l))

frames_each : (p : ℕ) (fs : List Frame) → Forms.lasts_from p fs ≡ true → Forms.total fs < 256 ^ 8 → H.AllHeld frame_bytes fs
unfolding Forms.lasts_from last_page
frames_each p [] h t = tt
frames_each p (f ∷ fs) h t =
    let a = and_fst (leb p f.last && leb f.last last_page) (Forms.lasts_from (f.last + 1) fs) h in
    let l = leb-true f.last last_page (and_snd (leb p f.last) (leb f.last last_page) a) in
    (frame_held f (omega arith) (omega arith), frames_each (f.last + 1) fs (and_snd (leb p f.last && leb f.last last_page) (Forms.lasts_from (f.last + 1) fs) h) (omega arith))

frames_held : (s : Pages) (fs : List Frame) → Forms.frames_form s fs ≡ true → Holds frames_bytes fs
unfolding frames_bytes Forms.frames_form last_lsn
frames_held s fs h =
    let p = Forms.start_page s in
    let ab = and_fst (leb (length fs) 16 && Forms.lasts_from p fs) (leb (Forms.total fs) last_lsn) h in
    let t = leb-true (Forms.total fs) last_lsn (and_snd (leb (length fs) 16 && Forms.lasts_from p fs) (leb (Forms.total fs) last_lsn) h) in
    H.listed_holds frame_bytes 16 fs (leb-true (length fs) 16 (and_fst (leb (length fs) 16) (Forms.lasts_from p fs) ab)) (omega arith)
    (frames_each p fs (and_snd (leb (length fs) 16) (Forms.lasts_from p fs) ab) (omega arith))

pub segment_held : (s : Segment) → Forms.segment_form s ≡ true → Holds segment_bytes s
unfolding segment_bytes Forms.segment_form Forms.lists_form
segment_held s h =
    let i = and_fst (Forms.id_form s.sid) (normal_form s.pages && Forms.frames_form s.pages s.frames) h in
    let l = and_snd (Forms.id_form s.sid) (normal_form s.pages && Forms.frames_form s.pages s.frames) h in
    H.viewed_holds (pair id_bytes (pair set_bytes frames_bytes)) segment_of segment_parts s refl
    (H.pair_holds id_bytes (pair set_bytes frames_bytes) s.sid (s.pages, s.frames) (bytes_held 16 s.sid i)
    (H.pair_holds set_bytes frames_bytes s.pages s.frames
    (set_held s.pages (and_fst (normal_form s.pages) (Forms.frames_form s.pages s.frames) l))
    (frames_held s.pages s.frames (and_snd (normal_form s.pages) (Forms.frames_form s.pages s.frames) l))))

-- a range of a segment
pub part_held : (p : Part) → Forms.id_form p.sid ≡ true → p.start < 256 ^ 8 → p.end < 256 ^ 8 → normal_form p.pages ≡ true → Holds part_bytes p
unfolding part_bytes
part_held p i s e n =
    H.viewed_holds (pair id_bytes (pair (number 8) (pair (number 8) set_bytes))) part_of part_parts p refl
    (H.pair_holds id_bytes (pair (number 8) (pair (number 8) set_bytes)) p.sid (p.start, (p.end, p.pages)) (bytes_held 16 p.sid i)
    (H.pair_holds (number 8) (pair (number 8) set_bytes) p.start (p.end, p.pages) (H.number_holds 8 p.start s)
    (H.pair_holds (number 8) set_bytes p.end p.pages (H.number_holds 8 p.end e) (set_held p.pages n))))

-- ---- snapshots

-- a range of a log whose LSNs have 64 bits
pub range_held : (r : Range) → Forms.id_form r.log ≡ true → r.start < 256 ^ 8 → r.end < 256 ^ 8 → Holds range_bytes r
unfolding range_bytes
range_held r i s e =
    H.viewed_holds (pair id_bytes (pair (number 8) (number 8))) range_of range_parts r refl
    (H.pair_holds id_bytes (pair (number 8) (number 8)) r.log (r.start, r.end) (bytes_held 16 r.log i)
    (H.pair_holds (number 8) (number 8) r.start r.end (H.number_holds 8 r.start s) (H.number_holds 8 r.end e)))

pub snapshot_held : (s : Snapshot) → s.count < 256 ^ 4 → length s.path ≤ 8 → H.AllHeld range_bytes s.path → Holds snapshot_bytes s
unfolding snapshot_bytes
snapshot_held s c l h =
    H.viewed_holds (reserved (pair (number 4) (listed range_bytes 8))) snapshot_of snapshot_parts s refl
    (H.reserved_holds (pair (number 4) (listed range_bytes 8)) (s.count, s.path)
    (H.pair_holds (number 4) (listed range_bytes 8) s.count s.path (H.number_holds 4 s.count c) (H.listed_holds range_bytes 8 s.path l (omega arith) h)))

-- ---- keys

pub log_lsn_held : (log : Id) (lsn : ℕ) → Forms.id_form log ≡ true → lsn < 256 ^ 8 → Holds log_lsn_bytes (log, lsn)
unfolding log_lsn_bytes
log_lsn_held log lsn i h =
    H.reserved_holds (pair id_bytes (complement 8)) (log, lsn) (H.pair_holds id_bytes (complement 8) log lsn (bytes_held 16 log i) (H.complement_holds 8 lsn h))

log_page_lsn_held : (log : Id) (page lsn : ℕ) → Forms.id_form log ≡ true → page < 256 ^ 4 → lsn < 256 ^ 8 → Holds log_page_lsn_bytes (log, (page, lsn))
unfolding log_page_lsn_bytes
log_page_lsn_held log page lsn i p h =
    H.reserved_holds (pair id_bytes (pair (number 4) (complement 8))) (log, (page, lsn))
    (H.pair_holds id_bytes (pair (number 4) (complement 8)) log (page, lsn) (bytes_held 16 log i)
    (H.pair_holds (number 4) (complement 8) page lsn (H.number_holds 4 page p) (H.complement_holds 8 lsn h)))

sid_page_held : (sid : Id) (page : ℕ) → Forms.id_form sid ≡ true → page < 256 ^ 4 → Holds sid_page_bytes (sid, page)
unfolding sid_page_bytes
sid_page_held sid page i h =
    H.reserved_holds (pair id_bytes (complement 4)) (sid, page) (H.pair_holds id_bytes (complement 4) sid page (bytes_held 16 sid i) (H.complement_holds 4 page h))

-- ---- the records of the six tables

pub checkpoint_held : (k : Checkpoint) → Forms.checkpoint_form k ≡ true → Holds checkpoint_bytes k
unfolding checkpoint_bytes Forms.checkpoint_form
checkpoint_held k h =
    H.viewed_holds log_lsn_bytes checkpoint_of checkpoint_parts k refl
    (log_lsn_held k.log k.lsn (and_fst (Forms.id_form k.log) (Forms.lsn_form k.lsn) h) (lsn_bound k.lsn (and_snd (Forms.id_form k.log) (Forms.lsn_form k.lsn) h)))

pub entry_held : (e : Entry) → Forms.entry_form e ≡ true → Holds entry_bytes e
unfolding entry_bytes Forms.entry_form
entry_held e h =
    let ab = and_fst (Forms.id_form e.log && Forms.page_form e.page) (Forms.lsn_form e.lsn) h in
    H.viewed_holds log_page_lsn_bytes entry_of entry_parts e refl
    (log_page_lsn_held e.log e.page e.lsn (and_fst (Forms.id_form e.log) (Forms.page_form e.page) ab) (page_bound e.page (and_snd (Forms.id_form e.log) (Forms.page_form e.page) ab))
    (lsn_bound e.lsn (and_snd (Forms.id_form e.log && Forms.page_form e.page) (Forms.lsn_form e.lsn) h)))

pub present_held : (p : Present) → Forms.present_form p ≡ true → Holds present_bytes p
unfolding present_bytes Forms.present_form
present_held p h =
    H.viewed_holds sid_page_bytes present_of present_parts p refl
    (sid_page_held p.sid p.page (and_fst (Forms.id_form p.sid) (Forms.page_form p.page) h) (page_bound p.page (and_snd (Forms.id_form p.sid) (Forms.page_form p.page) h)))

sync_held : (s : SyncPoint) → Forms.sync_form s ≡ true → Holds sync_bytes s
unfolding sync_bytes Forms.sync_form
sync_held s h =
    H.viewed_holds (pair (number 8) (optional (number 8))) sync_of sync_parts s refl
    (H.pair_holds (number 8) (optional (number 8)) s.remote s.watermark
    (H.number_holds 8 s.remote (lsn_bound s.remote (and_fst (Forms.lsn_form s.remote) (given Forms.lsn_form s.watermark) h)))
    (given_held (number 8) Forms.lsn_form s.watermark (λ n f. H.number_holds 8 n (lsn_bound n f)) (and_snd (Forms.lsn_form s.remote) (given Forms.lsn_form s.watermark) h)))

pending_held : (p : Pending) → Forms.pending_form p ≡ true → Holds pending_bytes p
unfolding pending_bytes Forms.pending_form
pending_held p h =
    let ab = and_fst (Forms.lsn_form p.local && Forms.lsn_form p.commit) (Forms.hash_form p.hash) h in
    H.viewed_holds (pair (number 8) (pair (number 8) hash_bytes)) pending_of pending_parts p refl
    (H.pair_holds (number 8) (pair (number 8) hash_bytes) p.local (p.commit, p.hash)
    (H.number_holds 8 p.local (lsn_bound p.local (and_fst (Forms.lsn_form p.local) (Forms.lsn_form p.commit) ab)))
    (H.pair_holds (number 8) hash_bytes p.commit p.hash
    (H.number_holds 8 p.commit (lsn_bound p.commit (and_snd (Forms.lsn_form p.local) (Forms.lsn_form p.commit) ab)))
    (bytes_held 32 p.hash (and_snd (Forms.lsn_form p.local && Forms.lsn_form p.commit) (Forms.hash_form p.hash) h))))

pub volume_held : (v : Volume) → Forms.volume_form v ≡ true → Holds volume_bytes v
unfolding volume_bytes Forms.volume_form
volume_held v h =
    let a = Forms.id_form v.vid in
    let b = Forms.id_form v.local in
    let c = Forms.id_form v.remote in
    let d = given Forms.sync_form v.sync in
    let e = given Forms.pending_form v.pending in
    let abcd = and_fst (a && b && c && d) e h in
    let abc = and_fst (a && b && c) d abcd in
    let ab = and_fst (a && b) c abc in
    let ends = pair (optional sync_bytes) (optional pending_bytes) in
    H.viewed_holds (pair (reserved id_bytes) (pair (reserved id_bytes) (pair id_bytes ends))) volume_of volume_parts v refl
    (H.pair_holds (reserved id_bytes) (pair (reserved id_bytes) (pair id_bytes ends)) v.vid (v.local, (v.remote, (v.sync, v.pending)))
    (H.reserved_holds id_bytes v.vid (bytes_held 16 v.vid (and_fst a b ab)))
    (H.pair_holds (reserved id_bytes) (pair id_bytes ends) v.local (v.remote, (v.sync, v.pending))
    (H.reserved_holds id_bytes v.local (bytes_held 16 v.local (and_snd a b ab)))
    (H.pair_holds id_bytes ends v.remote (v.sync, v.pending) (bytes_held 16 v.remote (and_snd (a && b) c abc))
    (H.pair_holds (optional sync_bytes) (optional pending_bytes) v.sync v.pending
    (given_held sync_bytes Forms.sync_form v.sync sync_held (and_snd (a && b && c) d abcd))
    (given_held pending_bytes Forms.pending_form v.pending pending_held (and_snd (a && b && c && d) e h))))))

name_held : (n : List ℕ) → Forms.name_form n ≡ true → Holds (reserved (padded 32)) n
unfolding Forms.name_form Forms.name_length
name_held n h =
    let l = and_fst (leb 1 (length n) && leb (length n) 32) (all (λ x. ltb x 256) n) h in
    H.reserved_holds (padded 32) n
    (H.padded_holds 32 n (leb-true (length n) 32 (and_snd (leb 1 (length n)) (leb (length n) 32) l)) (omega arith)
    (all_bytes n (and_snd (leb 1 (length n) && leb (length n) 32) (all (λ x. ltb x 256) n) h)))

pub tag_held : (g : Tag) → Forms.tag_form g ≡ true → Holds tag_bytes g
unfolding tag_bytes Forms.tag_form
tag_held g h =
    H.viewed_holds (pair (reserved (padded 32)) id_bytes) tag_of tag_parts g refl
    (H.pair_holds (reserved (padded 32)) id_bytes g.name g.vid (name_held g.name (and_fst (Forms.name_form g.name) (Forms.id_form g.vid) h))
    (bytes_held 16 g.vid (and_snd (Forms.name_form g.name) (Forms.id_form g.vid) h)))

lsns_held : (ns : List ℕ) → all Forms.lsn_form ns ≡ true → H.AllHeld (number 8) ns
unfolding all
lsns_held [] h = tt
lsns_held (n ∷ ns) h = (H.number_holds 8 n (lsn_bound n (and_fst (Forms.lsn_form n) (all Forms.lsn_form ns) h)), lsns_held ns (and_snd (Forms.lsn_form n) (all Forms.lsn_form ns) h))

pub commit_held : (x : Commit) → Forms.commit_form x ≡ true → Holds commit_bytes x
unfolding commit_bytes Forms.commit_form
commit_held x h =
    let a = Forms.id_form x.log in
    let b = Forms.lsn_form x.lsn in
    let c = Forms.count_form x.count in
    let d = given Forms.hash_form x.hash in
    let e = given Forms.segment_form x.segment in
    let f = leb (length x.checkpoints) 8 in
    let g = all Forms.lsn_form x.checkpoints in
    let abcdef = and_fst (a && b && c && d && e && f) g h in
    let abcde = and_fst (a && b && c && d && e) f abcdef in
    let abcd = and_fst (a && b && c && d) e abcde in
    let abc = and_fst (a && b && c) d abcd in
    let ab = and_fst (a && b) c abc in
    let lists = listed (number 8) 8 in
    let ends = pair (optional segment_bytes) lists in
    H.viewed_holds (pair log_lsn_bytes (pair (number 4) (pair (optional hash_bytes) ends))) commit_of commit_parts x refl
    (H.pair_holds log_lsn_bytes (pair (number 4) (pair (optional hash_bytes) ends)) (x.log, x.lsn) (x.count, (x.hash, (x.segment, x.checkpoints)))
    (log_lsn_held x.log x.lsn (and_fst a b ab) (lsn_bound x.lsn (and_snd a b ab)))
    (H.pair_holds (number 4) (pair (optional hash_bytes) ends) x.count (x.hash, (x.segment, x.checkpoints))
    (H.number_holds 4 x.count (count_bound x.count (and_snd (a && b) c abc)))
    (H.pair_holds (optional hash_bytes) ends x.hash (x.segment, x.checkpoints)
    (given_held hash_bytes Forms.hash_form x.hash (bytes_held 32) (and_snd (a && b && c) d abcd))
    (H.pair_holds (optional segment_bytes) lists x.segment x.checkpoints
    (given_held segment_bytes Forms.segment_form x.segment segment_held (and_snd (a && b && c && d) e abcde))
    (H.listed_holds (number 8) 8 x.checkpoints (leb-true (length x.checkpoints) 8 (and_snd (a && b && c && d && e) f abcdef)) (omega arith)
    (lsns_held x.checkpoints (and_snd (a && b && c && d && e && f) g h)))))))
