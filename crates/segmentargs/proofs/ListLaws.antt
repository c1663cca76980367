-- The frames of a segment in bytes, one at a time. While a walk goes over them, what is left of the rule's parts is what the frames that are left make from a byte and a page on, the
-- last pages that are left rise, and the sizes that are left fit (`Reached`). A walk may start at page 1, since no page of the set lies below its first. In a list each range fills its
-- 417 bytes. Assumes nothing.
use Rattle.std.proofs.Common.{◌≡◌, ℕ, zero, suc, ◌+◌, ◌-◌, ◌*◌, ◌/◌, ◌<◌, ◌≤◌, min, Bool, true, ◌&&◌, leb, List, [], ◌∷◌, ◌++◌, map, length, get_or, take, drop, replicate, sym, refl, ap, ◌∙◌, ap₂, add-one, arith, length-drop, length-take-le, take_all, drop-cons, drop-drop, take-add, drop_at, eqb-true, le-leb, leb-true}
use mathlib.Core.Option.{Option, none, some}
use lib.ListN.{length-map}
use Rattle.octets.specs.Bytes.{be, part, put}
use Rattle.octets.specs.Flat.{flat}
use Rattle.basics.specs.Answers.{Answer, refused, done}
use Rattle.basics.specs.Numbers.{last_lsn, last_page}
use Rattle.pageset.specs.declared.PageSet.{PageSet}
use Rattle.pageset.specs.Sets.{bit, blank, holds, mask_at, member, normal, normal_form, rising, shown, window_forms}
use Rattle.pageset.specs.Rules.{within}
use Rattle.pageset.specs.Says.{IsSet}
use Rattle.rules.specs.Records as R
use Rattle.rules.specs.Pages.{first_page, span}
use Rattle.rules.specs.Forms.{or_one, start_page, lasts_from, total, frames_form, lists_form, segment_form, bytes_form}
use Rattle.rules.specs.Frames.{Part, parts_from, parts_of, frame_list}
use Rattle.rules.proofs.TableLaws.{cases, and_fst, and_snd, and_both}
use Rattle.rules.proofs.PageCounts.{holds_span, span_normal}
use Rattle.commit.proofs.SetLaws.{one_list}
use Rattle.commit.proofs.RecordLaws.{one_range}
use Rattle.commit.specs.declared.SegmentIdx.{SegmentIdx}
use Rattle.commit.specs.declared.SegmentRange.{SegmentRange}
use Rattle.commit.specs.Builders.{zero_frame}
use Rattle.commit.specs.Says.{segment_says, range_says}
use Rattle.frames.specs.declared.Run.{Run}
use Rattle.frames.specs.Rules.{no_frames, spelled, frames_ok, list_rule}
use Rattle.frames.proofs.PlaceLaws.{form_rises, formed_ok, span_is, start_least}
use Rattle.frames.proofs.ListLaws.{parts_length}
use Rattle.layout.specs.Values.{set_bytes, frame_bytes, frames_bytes, part_bytes}
use Rattle.setbytes.specs.Laid.{set_laid}
use Rattle.setbytes.proofs.LaidLaws.{says_laid, laid_normal}
use Rattle.setbytes.proofs.SetLaws.{first_counts}
use Rattle.segmentbytes.specs.Laid.{frames_at, frame_laid, segment_laid}
use Rattle.segmentbytes.proofs.FrameLaws.{frame_at, frame_nth, length_frames}
use Rattle.segmentbytes.proofs.DomainLaws.{frames_at_lem}
use Rattle.segmentbytes.proofs.SegmentLaws.{segment_at}
use Rattle.segmentbytes.proofs.Trips.{segment_says_lem}
use Rattle.arguments.specs.Args.{not_aset}
use Rattle.arguments.specs.Replies.{given}
use Rattle.resultlists.specs.Lists.{roomed, list_left}
use Rattle.resultlists.proofs.EntryLaws.{Listed, none_listed, one_listed}
use Rattle.resultlists.proofs.AnswerLaws.{left_put, room_none, room_there}
use Rattle.segmentargs.specs.Segments.{not_asegment, segment_arg}
use Rattle.segmentargs.specs.Lists.{segment_in, Nth, run_in, IsFrame}
use Rattle.segmentargs.proofs.SegmentLaws.{range_size, range_long}

-- ---- number k of a list

module _ {A : Type 0} (l : List A) (k : ℕ) (x : A) (e : Nth l k x) where
  nth_below : k < length l
  nth_below = omega (arith, ap length e, length-drop k l)

  nth_take : take (k + 1) l ≡ take k l ++ (x ∷ [])
  nth_take = take-add k 1 l ∙ ap (λ (m : List A). take k l ++ take 1 m) e

-- ---- the frames where they stand

module _ (b : List ℕ) (at : ℕ) (h : at + 594 ≤ length b) where
  abbrev count : ℕ
  count = min (be (part (at + 401) 1 b)) 16

  frames_are : (segment_in at b).frames ≡ frames_at count (at + 401 + 1) b
  frames_are = ap (λ (s : R.Segment). s.frames) (segment_at b at) ∙ frames_at_lem b (at + 401) (omega arith) count refl

  pub frames_few : length (segment_in at b).frames ≤ 16
  frames_few = omega (arith, ap length frames_are, length_frames count (at + 401 + 1) b)

  -- entry k, from a place on
  module _ (k from : ℕ) (l : k < length (segment_in at b).frames) (p : from ≡ at + 402 + k * 12) where
    read_at : (z : R.Frame) → get_or (segment_in at b).frames k z ≡ record { size = be (part from 8 b); last = be (part (from + 8) 4 b) }
    read_at z =
        let m : k < count = omega (arith, ap length frames_are, length_frames count (at + 401 + 1) b) in
        let q : at + 401 + 1 + k * 12 ≡ from = omega arith in
        ap (λ (fs : List R.Frame). get_or fs k z) frames_are
        ∙ frame_nth count (at + 401 + 1) b z k m
        ∙ ap (λ (n : ℕ). frame_bytes.read (part n 12 b)) q
        ∙ frame_at from b

    pub entry_at : Nth (segment_in at b).frames k (record { size = be (part from 8 b); last = be (part (from + 8) 4 b) })
    entry_at =
        let z : R.Frame = record { size = 0; last = 0 } in
        rw add-one (drop-cons (segment_in at b).frames k z l ∙ ap (λ (f : R.Frame). f ∷ drop (suc k) (segment_in at b).frames) (read_at z))

-- ---- a first frame from page 1 on

module _ (ws : R.Pages) (e : normal_form ws ≡ true) where
  start_counts : 0 < start_page ws
  start_counts = go (first_page ws) refl
    where
      go : (o : Option ℕ) → o ≡ first_page ws → 0 < or_one o
      go none q = omega arith
      go (some p) q = first_counts ws e p q

  -- no page of the set lies below its first
  none_below : (p : ℕ) → holds ws p ≡ true → start_page ws ≤ p
  none_below p m =
      let s = says_laid ws in
      rw s at (start_least (set_laid ws) (laid_normal ws e) p (ap (λ (v : R.Pages). holds v p) s ∙ m))

  span_one : (b : ℕ) → span (start_page ws) b ws ≡ span 1 b ws
  span_one b =
      one_list (span (start_page ws) b ws) (span 1 b ws) (form_rises _ (span_normal (start_page ws) b ws e)) (form_rises _ (span_normal 1 b ws e))
      (λ p. holds_span (start_page ws) b ws p e start_counts ∙ same p ∙ sym (holds_span 1 b ws p e (omega arith)))
    where
      same : (p : ℕ) → holds ws p && (leb (start_page ws) p && leb p b) ≡ holds ws p && (leb 1 p && leb p b)
      same p =
          cases (holds ws p)
          (λ k. let l = none_below p k in ap (λ (t : Bool). holds ws p && (t && leb p b)) (le-leb (start_page ws) p l ∙ sym (le-leb 1 p (omega (arith, l, start_counts)))))
          (λ k. rw k)

-- ---- the walk

-- number i is next, from this byte and this page on
pub record Reached (s : R.Segment) (i byte page : ℕ) : Type 0 where
  pub left : drop i (parts_of s) ≡ parts_from s byte page (drop i s.frames)
  pub rising : lasts_from page (drop i s.frames) ≡ true
  pub fits : byte + total (drop i s.frames) ≤ 18446744073709551615

module _ (s : R.Segment) (e : segment_form s ≡ true) where
  its_form : normal_form s.pages ≡ true
  unfolding segment_form lists_form
  its_form = search (and_fst, and_snd)

  its_sid : length s.sid ≡ 16
  unfolding segment_form bytes_form
  its_sid = eqb-true (length s.sid) 16 (search (and_fst, and_snd))

  its_lasts : lasts_from (start_page s.pages) s.frames ≡ true
  unfolding segment_form lists_form frames_form
  its_lasts = search (and_fst, and_snd)

  its_sum : total s.frames ≤ last_lsn
  unfolding segment_form lists_form frames_form
  its_sum = let q : leb (total s.frames) last_lsn ≡ true = search (and_fst, and_snd) in leb-true (total s.frames) last_lsn q

  from_one : (fs : List R.Frame) → parts_from s 0 (start_page s.pages) fs ≡ parts_from s 0 1 fs
  from_one [] = refl
  from_one (f ∷ fs) =
      ap (λ (ws : R.Pages). record { sid = s.sid; start = 0; end = 0 + f.size; pages = ws } ∷ parts_from s (0 + f.size) (f.last + 1) fs) (span_one s.pages its_form f.last)

  rising_one : (fs : List R.Frame) → lasts_from (start_page s.pages) fs ≡ true → lasts_from 1 fs ≡ true
  unfolding lasts_from
  rising_one [] q = refl
  rising_one (f ∷ fs) q =
      let l : leb (start_page s.pages) f.last ≡ true = search (and_fst, and_snd) in
      let m : leb f.last last_page ≡ true = search (and_fst, and_snd) in
      let n : lasts_from (f.last + 1) fs ≡ true = search (and_fst, and_snd) in
      and_both (and_both (le-leb 1 f.last (omega (arith, leb-true (start_page s.pages) f.last l, start_counts s.pages its_form))) m) n

  pub reached_first : Reached s 0 0 1
  unfolding last_lsn parts_of
  reached_first = record { left = from_one s.frames; rising = rising_one s.frames its_lasts; fits = omega (arith, its_sum) }

module _ (s : R.Segment) (i byte page : ℕ) (r : Reached s i byte page) (f : R.Frame) (e : Nth s.frames i f) where
  -- the sum of the sizes so far fits
  pub next_fits : byte + f.size ≤ 18446744073709551615
  next_fits = omega (arith, r.fits, ap total e)

  here : lasts_from page (f ∷ drop (i + 1) s.frames) ≡ true
  here = ap (lasts_from page) (sym e) ∙ r.rising

  -- the frame does not end before its first page
  pub next_page_lem : page ≤ f.last
  unfolding lasts_from
  next_page_lem = let q : leb page f.last ≡ true = let k = here in search (and_fst, and_snd) in leb-true page f.last q

  abbrev this : Part
  this = record { sid = s.sid; start = byte; end = byte + f.size; pages = span page f.last s.pages }

  abbrev later : List Part
  later = parts_from s (byte + f.size) (f.last + 1) (drop (i + 1) s.frames)

  from_here : drop i (parts_of s) ≡ this ∷ later
  from_here = r.left ∙ ap (parts_from s byte page) e

  behind : drop (i + 1) (parts_of s) ≡ later
  behind = sym (drop-drop 1 i (parts_of s)) ∙ ap (drop 1) from_here

  pub reached_part : Nth (parts_of s) i (record { sid = s.sid; start = byte; end = byte + f.size; pages = span page f.last s.pages })
  reached_part = from_here ∙ ap (λ (l : List Part). this ∷ l) (sym behind)

  pub reached_next : Reached s (i + 1) (byte + f.size) (f.last + 1)
  unfolding lasts_from
  reached_next = record {
    left = behind;
    rising = let k = here in search (and_fst, and_snd);
    fits = omega (arith, r.fits, ap total e);
  }

-- as many parts as frames
pub parts_long : (s : R.Segment) → length (parts_of s) ≡ length s.frames
unfolding parts_of
parts_long s = parts_length s 0 (start_page s.pages) s.frames

-- ---- a frame by value

module _ (b : List ℕ) (at : ℕ) (e : segment_form (segment_in at b) ≡ true) (k : ℕ) (run : Run) (n : Nth (parts_of (segment_in at b)) k (run_in (segment_in at b) run) × (0 < run.first.0)) where
  -- the segment's set, as it is read
  module _ (set : PageSet) (q : set ≡ set_laid (set_bytes.read (part (at + 16) 385 b))) where
    held : set ≡ set_laid (segment_in at b).pages
    held = q ∙ sym (ap (λ (x : R.Segment). set_laid x.pages) (segment_at b at))

    pub set_fine : normal set ≡ true
    set_fine = ap normal held ∙ laid_normal (segment_in at b).pages (its_form (segment_in at b) e)

    pub made_frame : (sid : List ℕ) (pages : PageSet) → sid ≡ part at 16 b → IsSet (λ p. member set p && within run.first.0 run.last.0 p) pages
        → IsFrame (parts_of (segment_in at b)) k (record { sid = sid; start = run.start; end = run.end; pages = pages })
    made_frame sid pages i h =
        let ident : sid ≡ (segment_in at b).sid = i ∙ sym (ap (λ (x : R.Segment). x.sid) (segment_at b at)) in
        let shows : shown set ≡ (segment_in at b).pages = ap shown held ∙ says_laid (segment_in at b).pages in
        let within_it : shown pages ≡ span run.first.0 run.last.0 (segment_in at b).pages =
        span_is set pages run.first.0 run.last.0 set_fine n.1 h ∙ ap (span run.first.0 run.last.0) shows in
        let said : run_in (segment_in at b) run ≡ record { sid = sid; start = run.start; end = run.end; pages = shown pages } =
        ap₂ (λ (x : List ℕ) (ws : R.Pages). record { sid = x; start = run.start; end = run.end; pages = ws }) (sym ident) (sym within_it) in
        record {
          says = n.0 ∙ ap (λ (p : Part). p ∷ drop (k + 1) (parts_of (segment_in at b))) said;
          sid = ap length ident ∙ its_sid (segment_in at b) e;
          normal = h.normal;
        }

-- so the frame is one range
pub one_frame : (fs : List Part) (k : ℕ) (x y : SegmentRange) → IsFrame fs k x → IsFrame fs k y → x ≡ y
one_frame fs k x y h g =
    let e : range_says x ∷ drop (k + 1) fs ≡ range_says y ∷ drop (k + 1) fs = sym h.says ∙ g.says in
    let f : range_says y ≡ range_says x = cc in
    one_range (range_says x) x y (record { says = refl; normal = h.normal }) (record { says = f; normal = g.normal })

-- ---- the list

module _ (fs : List Part) (was : List ℕ) where
  pub listed_none : Listed part_bytes 417 was (take 0 fs) was
  listed_none = none_listed part_bytes 417 was

  -- a frame more
  pub listed_more : (k : ℕ) (r : SegmentRange) (t u : List ℕ) → IsFrame fs k r → (k + 1) * 417 ≤ length was → Listed part_bytes 417 was (take k fs) t → u ≡ put (k * 417) (part_bytes.spell (range_says r)) t
      → Listed part_bytes 417 was (take (k + 1) fs) u
  listed_more k r t u f room w p =
      let x = range_says r in
      let l = length-take-le k fs (omega (arith, nth_below fs k x f.says)) in
      rw (nth_take fs k x f.says)
      (one_listed part_bytes 417 was (take k fs) x t u w (range_long r f.sid f.normal) (rw l room) (p ∙ ap (λ (n : ℕ). put (n * 417) (part_bytes.spell x) t) (sym l)))

  -- all of them
  pub listed_all : (k : ℕ) (t : List ℕ) → length fs ≤ k → Listed part_bytes 417 was (take k fs) t → t ≡ put 0 (flat part_bytes.spell fs) was
  listed_all k t h w = w.bytes ∙ ap (λ (l : List Part). put 0 (flat part_bytes.spell l) was) (take_all k fs h)

-- ---- the rule on an argument

-- one that is not in form
rule_bad : refused 3 ≡ list_rule not_asegment
unfolding list_rule spelled not_asegment not_aset normal blank normal_form rising window_forms holds bit mask_at
rule_bad = refl

-- one that is
no_frames_lem : (n : ℕ) → no_frames (replicate n zero_frame) ≡ true
unfolding no_frames
no_frames_lem zero = refl
no_frames_lem (suc n) = no_frames_lem n

laid_ok : (x : R.Segment) → segment_form x ≡ true → frames_ok (segment_laid x) ≡ true
unfolding frames_ok spelled segment_form lists_form frames_form
laid_ok x e =
    let f : normal_form x.pages ≡ true = search (and_fst, and_snd) in
    let few : leb (length x.frames) 16 ≡ true = search (and_fst, and_snd) in
    let lists : lists_form x ≡ true = search (and_fst, and_snd) in
    let past = drop_at (map frame_laid x.frames) (replicate (16 - length x.frames) zero_frame) (length x.frames) (length-map x.frames frame_laid) in
    and_both
    (and_both (and_both (laid_normal x.pages f) few) (ap no_frames past ∙ no_frames_lem (16 - length x.frames)))
    (ap lists_form (segment_says_lem x) ∙ lists)

rule_good : (x : R.Segment) → segment_form x ≡ true → done (parts_of x) ≡ list_rule (segment_laid x)
unfolding list_rule frame_list
rule_good x e = ap (λ (s : R.Segment). done (parts_of s)) (sym (segment_says_lem x)) ∙ formed_ok (segment_laid x) (done (parts_of (segment_says (segment_laid x)))) (laid_ok x e)

-- the call asks for room behind it
module _ (b was : List ℕ) where
  abbrev asked : Answer (List Part)
  asked = roomed part_bytes was (list_rule (segment_arg b))

  pub asked_bad : not_asegment ≡ segment_arg b → asked ≡ refused 3
  asked_bad e = ap (λ (s : SegmentIdx). roomed part_bytes was (list_rule s)) (sym e) ∙ ap (roomed part_bytes was) (sym rule_bad)

  module _ (e : segment_laid (segment_in 0 b) ≡ segment_arg b) (f : segment_form (segment_in 0 b) ≡ true) (n : ℕ) (k : n ≡ length (frames_bytes.read (part 401 193 b))) where
    pub frames_counted : n ≡ length (segment_in 0 b).frames
    frames_counted = k ∙ sym (ap (λ (s : R.Segment). length s.frames) (segment_at b 0))

    parts_counted : n ≡ length (parts_of (segment_in 0 b))
    parts_counted = frames_counted ∙ sym (parts_long (segment_in 0 b))

    by_rule : asked ≡ roomed part_bytes was (done (parts_of (segment_in 0 b)))
    by_rule = ap (λ (s : SegmentIdx). roomed part_bytes was (list_rule s)) (sym e) ∙ ap (roomed part_bytes was) (sym (rule_good (segment_in 0 b) f))

    pub asked_short : length was / 417 < n → asked ≡ refused 19
    asked_short h = by_rule ∙ room_none part_bytes 417 range_size was (parts_of (segment_in 0 b)) n parts_counted h

    pub asked_list : (items : ℕ) (t : List ℕ) → n ≤ length was / 417 → t ≡ put 0 (flat part_bytes.spell (parts_of (segment_in 0 b))) was → (given, (t, n)) ≡ list_left part_bytes was items asked
    asked_list items t h w =
        left_put part_bytes was items asked (parts_of (segment_in 0 b)) t n (by_rule ∙ room_there part_bytes 417 range_size was (parts_of (segment_in 0 b)) n parts_counted h) w parts_counted
