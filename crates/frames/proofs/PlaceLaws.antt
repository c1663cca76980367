-- The frame of a page. A walk that passes the frames whose last page is below p finds the first that holds p, since it starts at most at p; and the set
-- of a span is the rules' span, since a list of windows in order is known by its pages. Assumes nothing.
use Rattle.std.proofs.Common.{◌≡◌, ℕ, ◌+◌, ◌<◌, ◌≤◌, Bool, true, false, cond, ◌&&◌, leb, List, [], ◌∷◌, length, get_or, drop, sym, refl, ap, ◌∙◌, ap₂, ⊎_elim, arith, lt-ltb, le-leb, leb-false, leb-true, Option as Maybe, Some, None}
use mathlib.Core.Option.{Option, none}
use borrow.Author.Tests.{lt-leb}
use Rattle.basics.specs.Answers.{Answer, refused, done, ask, ◌>>◌}
use Rattle.basics.specs.Numbers.{last_lsn}
use Rattle.pageset.specs.declared.Window.{Window}
use Rattle.pageset.specs.declared.PageSet.{PageSet}
use Rattle.pageset.specs.Sets.{holds, rising, shown, member, normal_form, normal}
use Rattle.pageset.specs.Rules.{within}
use Rattle.pageset.specs.Says.{IsSet}
use Rattle.pageset.proofs.FormLaws.{and_fst, and_snd, clash, Rises, rises_fact, Normal, normal_fact, shown_form}
use Rattle.pageset.proofs.WindowLaws.{lt_or}
use Rattle.pageset.proofs.EdgeLaws.{no_pages, first_least, first_lowest}
use Rattle.rules.specs.Records as R
use Rattle.rules.specs.Lists.{first}
use Rattle.rules.specs.Pages.{span}
use Rattle.rules.specs.Forms.{or_one, start_page, total, frames_form, lists_form}
use Rattle.rules.specs.Frames.{Part, parts_from, parts_of, part_of, frame_of, within_lent, frame_bytes}
use Rattle.rules.proofs.TableLaws.{cases}
use Rattle.rules.proofs.PageCounts.{first_page_lem, holds_span, span_normal}
use Rattle.commit.proofs.SetLaws.{one_list}
use Rattle.commit.specs.declared.Frame.{Frame}
use Rattle.commit.specs.declared.SegmentIdx.{SegmentIdx}
use Rattle.frames.specs.declared.Run.{Run}
use Rattle.commit.specs.Builders.{zero_frame}
use Rattle.commit.specs.Says.{listed, segment_says}
use Rattle.frames.specs.Places.{place_says}
use Rattle.frames.specs.Rules.{spelled, frames_ok, frame_rule, part_bytes, bytes_rule}
use Rattle.frames.proofs.FrameLaws.{front, ended}

-- ---- the set of a span

pub form_rises : (ws : List Window) → normal_form ws ≡ true → Rises 0 ws
unfolding normal_form
form_rises ws e = rises_fact 0 ws (search (and_fst, and_snd)) (search (and_fst, and_snd))

-- so the set of a span is the rules' span
pub span_is : (s r : PageSet) (a b : ℕ) → normal s ≡ true → 0 < a → IsSet (λ p. member s p && within a b p) r → shown r ≡ span a b (shown s)
span_is s r a b e pos h =
    one_list (shown r) (span a b (shown s)) (normal_fact r h.normal).rising (form_rises _ (span_normal a b (shown s) (shown_form s e)))
    (λ p. h.pages p ∙ sym (holds_span a b (shown s) p (shown_form s e) pos))

-- ---- frame 1 starts at most at any page of the set

pub start_least : (s : PageSet) → normal s ≡ true → (p : ℕ) → member s p ≡ true → start_page (shown s) ≤ p
start_least s e p m = ⊎_elim (λ l. some_pages l) (λ l. clash (member s p) m (no_pages s t (omega arith) p)) (lt_or 0 s.len)
  where
    t : Normal s
    t = normal_fact s e

    some_pages : 0 < s.len → start_page (shown s) ≤ p
    some_pages l =
        let q = ap or_one (first_page_lem (shown s) (shown_form s e) ∙ sym (first_lowest s t l)) in
        ⊎_elim (λ k. clash (member s p) m (first_least s t l p k)) (λ k. omega (arith, q)) (lt_or p _)

-- ---- the walk

-- the first frame, from a byte and a page on, whose last page is not below p
unfoldable pub run_at : ℕ → ℕ → ℕ → List R.Frame → Maybe Run
run_at p byte page [] = None
run_at p byte page (f ∷ fs) =
    cond (leb p f.last) (Some (record { start = byte; end = byte + f.size; first = record { 0 = page }; last = record { 0 = f.last } })) (run_at p (byte + f.size) (f.last + 1) fs)

-- of a page of the set it is the first whose set holds the page
run_first : (s : SegmentIdx) (p : ℕ) → normal s.pages ≡ true → member s.pages p ≡ true → (byte page : ℕ) (fs : List R.Frame) → 0 < page → page ≤ p
    → place_says s (run_at p byte page fs) ≡ first (λ f. holds f.pages p) (parts_from (segment_says s) byte page fs)
unfolding run_at first
run_first s p e m byte page [] h l = refl
run_first s p e m byte page (f ∷ fs) h l =
    let q = holds_span page f.last (shown s.pages) p (shown_form s.pages e) h ∙ ap₂ (λ (a b : Bool). a && (b && leb p f.last)) m (le-leb page p l) in
    cases (leb p f.last) (λ k. rw (q, k)) (λ k. rw (q, k) (run_first s p e m (byte + f.size) (f.last + 1) fs (omega arith) (omega (arith, leb-false p f.last k))))

pub run_part_lem : (s : SegmentIdx) (p start : ℕ) → normal s.pages ≡ true → member s.pages p ≡ true → start ≡ start_page (shown s.pages) → 0 < start
    → place_says s (run_at p 0 start (listed s)) ≡ part_of (segment_says s) p
unfolding part_of parts_of
run_part_lem s p start e m st h =
    rw m (run_first s p e m 0 start (listed s) h (omega (arith, start_least s.pages e p m))
    ∙ ap (λ (n : ℕ). first (λ f. holds f.pages p) (parts_from (segment_says s) 0 n (listed s))) st)

pub no_part : (s : SegmentIdx) (p : ℕ) → member s.pages p ≡ false → none ≡ part_of (segment_says s) p
unfolding part_of
no_part s p m = rw m

-- a turn of it
module _ (s : SegmentIdx) (t : s.len ≤ length s.frames) (i p byte page : ℕ) where
  pub run_end : s.len ≤ i → run_at p byte page (drop i (listed s)) ≡ None
  unfolding run_at
  run_end h = ap (run_at p byte page) (ended s t i h)

  module _ (h : i < s.len) where
    abbrev here : Frame
    here = get_or s.frames i zero_frame

    pub run_here : p ≤ (get_or s.frames i zero_frame).last.0
        → run_at p byte page (drop i (listed s)) ≡ Some (record { start = byte; end = byte + (get_or s.frames i zero_frame).size; first = record { 0 = page }; last = (get_or s.frames i zero_frame).last })
    unfolding run_at
    run_here l = ap (run_at p byte page) (front s t i h) ∙ rw (le-leb p here.last.0 l)

    pub run_past : (get_or s.frames i zero_frame).last.0 < p
        → run_at p byte page (drop i (listed s)) ≡ run_at p (byte + (get_or s.frames i zero_frame).size) ((get_or s.frames i zero_frame).last.0 + 1) (drop (i + 1) (listed s))
    unfolding run_at
    run_past l = ap (run_at p byte page) (front s t i h) ∙ rw (lt-leb p here.last.0 l)

    pub total_here : total (drop i (listed s)) ≡ (get_or s.frames i zero_frame).size + total (drop (i + 1) (listed s))
    total_here = ap total (front s t i h)

-- ---- what a segment in form has

module _ (s : SegmentIdx) (e : frames_ok s ≡ true) where
  pub ok_normal : normal s.pages ≡ true
  unfolding frames_ok spelled
  ok_normal = search (and_fst, and_snd)

  pub ok_few : s.len ≤ 16
  unfolding frames_ok spelled
  ok_few = let h : leb s.len 16 ≡ true = search (and_fst, and_snd) in leb-true s.len 16 h

  pub ok_sum : total (listed s) ≤ last_lsn
  unfolding frames_ok lists_form frames_form
  ok_sum = let h : leb (total (listed s)) last_lsn ≡ true = search (and_fst, and_snd) in leb-true (total (listed s)) last_lsn h

-- ---- the tests of a segment, as every rule asks them

module _ {A : Type 0} (s : SegmentIdx) (q : Answer A) where
  abbrev formed : Answer A
  formed = ask (spelled s) 3 >> (ask (lists_form (segment_says s)) 3 >> q)

  pub formed_bad : frames_ok s ≡ false → refused 3 ≡ formed
  unfolding frames_ok
  formed_bad e = cases (spelled s) (λ k. let l : lists_form (segment_says s) ≡ false = rw k at e in rw (k, l)) (λ k. rw k)

  pub formed_ok : frames_ok s ≡ true → q ≡ formed
  unfolding frames_ok
  formed_ok e = rw (and_fst (spelled s) (lists_form (segment_says s)) e, and_snd (spelled s) (lists_form (segment_says s)) e)

-- ---- the rule, at each of the code's answers

module _ (s : SegmentIdx) (p : ℕ) where
  pub rule_zero : p ≡ 0 → refused 1 ≡ frame_rule s p
  unfolding frame_rule
  rule_zero e = rw e

  pub rule_bad : 0 < p → frames_ok s ≡ false → refused 3 ≡ frame_rule s p
  unfolding frame_rule frame_of
  rule_bad l e = rw (lt-ltb 0 p l) (formed_bad s (done (part_of (segment_says s) p)) e)

  pub rule_place : (o : Option Part) → 0 < p → frames_ok s ≡ true → o ≡ part_of (segment_says s) p → done o ≡ frame_rule s p
  unfolding frame_rule frame_of
  rule_place o l e q = rw (lt-ltb 0 p l, q) (formed_ok s (done (part_of (segment_says s) p)) e)

-- ---- the frame's bytes

module _ (s : SegmentIdx) (p lent : ℕ) where
  pub bytes_zero : p ≡ 0 → refused 1 ≡ part_bytes (bytes_rule s p lent)
  unfolding bytes_rule
  bytes_zero e = rw e

  pub bytes_bad : 0 < p → frames_ok s ≡ false → refused 3 ≡ part_bytes (bytes_rule s p lent)
  unfolding bytes_rule frame_bytes
  bytes_bad l e = rw (lt-ltb 0 p l) (ap part_bytes (formed_bad s (within_lent lent (part_of (segment_says s) p)) e))

  pub bytes_place : (o : Option Part) → 0 < p → frames_ok s ≡ true → o ≡ part_of (segment_says s) p → part_bytes (within_lent lent o) ≡ part_bytes (bytes_rule s p lent)
  unfolding bytes_rule frame_bytes
  bytes_place o l e q = rw (lt-ltb 0 p l, q) (ap part_bytes (formed_ok s (within_lent lent (part_of (segment_says s) p)) e))
