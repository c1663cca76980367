-- The list of frames. While a walk fills the places, ranges that say the parts that are left would complete those that are there (`told`), what is not
-- filled is zero, the last pages that are left rise and the sizes that are left fit. The promise determines the answer. Assumes nothing.
use Rattle.std.proofs.Common.{◌≡◌, ℕ, suc, ◌+◌, ◌-◌, ◌<◌, ◌≤◌, true, false, ◌&&◌, leb, List, [], ◌∷◌, ◌++◌, length, get_or, take, drop, set, replicate, sym, refl, ap, ◌∙◌, ap₂, append_assoc, append-nil, add-one, arith, length-set, take-append-drop, drop-drop, take-suc-set, drop-set-lt, leb-true, Result, Ok, Err}
use lib.ListN.{length-replicate}
use Rattle.basics.specs.Answers.{Answer, refused, done}
use Rattle.basics.specs.declared.refusal.Refusal.{Refusal}
use Rattle.basics.proofs.RefusalLaws.{one_refusal}
use Rattle.basics.specs.Numbers.{last_lsn, last_page}
use Rattle.pageset.specs.Sets.{shown}
use Rattle.pageset.proofs.FormLaws.{and_fst, and_snd}
use Rattle.rules.specs.Records as R
use Rattle.rules.specs.Forms.{start_page, lasts_from, total, frames_form, lists_form}
use Rattle.rules.specs.Pages.{span}
use Rattle.rules.specs.Frames.{Part, parts_from, parts_of, frame_list}
use Rattle.commit.proofs.RecordLaws.{one_range}
use Rattle.commit.specs.declared.SegmentIdx.{SegmentIdx}
use Rattle.commit.specs.declared.SegmentRange.{SegmentRange}
use Rattle.commit.specs.Builders.{zero_frame}
use Rattle.commit.specs.Says.{frame_says, listed, segment_says, zero_range, IsRange}
use Rattle.frames.specs.declared.FrameList.{FrameList}
use Rattle.frames.specs.Parts.{AreRanges, Filled, Lists}
use Rattle.frames.specs.Rules.{frames_ok, list_rule}
use Rattle.frames.proofs.FrameLaws.{long, front, ended}
use Rattle.frames.proofs.PlaceLaws.{ok_sum, total_here, formed_bad, formed_ok}

-- ---- places with zeros past what is filled

module _ {A : Type 0} (zero : A) (places : List A) (i n : ℕ) (x : A) (h : i < n) (e : drop i places ≡ replicate (n - i) zero) where
  -- one zero less
  rest_step : drop (i + 1) (set places i x) ≡ replicate (n - (i + 1)) zero
  rest_step =
      let k : n - i ≡ suc (n - (i + 1)) = omega arith in
      drop-set-lt (i + 1) places i x (omega arith) ∙ sym (drop-drop 1 i places) ∙ ap (drop 1) e ∙ ap (λ (m : ℕ). drop 1 (replicate m zero)) k

-- a place stored is one more of those in front
taken : {A : Type 0} (places : List A) (i : ℕ) (x : A) (xs : List A) → i < length places → take i places ++ x ∷ xs ≡ take (i + 1) (set places i x) ++ xs
taken places i x xs h = rw (add-one, take-suc-set places i x h, append_assoc)

-- ---- the walk

-- i places are filled, and the next frame starts at this byte and this page
pub record Walked (s : SegmentIdx) (parts : List Part) (i byte page : ℕ) (places : List SegmentRange) : Type 0 where
  pub long : length places ≡ 16
  pub told : (rs : List SegmentRange) → AreRanges (parts_from (segment_says s) byte page (drop i (listed s))) rs → AreRanges parts (take i places ++ rs)
  pub rest : drop i places ≡ replicate (16 - i) zero_range
  pub rising : lasts_from page (drop i (listed s)) ≡ true
  pub fits : byte + total (drop i (listed s)) ≤ 18446744073709551615

-- no place is filled
module _ (s : SegmentIdx) (e : frames_ok s ≡ true) where
  ok_rising : lasts_from (start_page (shown s.pages)) (listed s) ≡ true
  unfolding frames_ok lists_form frames_form
  ok_rising = search (and_fst, and_snd)

  pub walk_starts : (page : ℕ) → page ≡ start_page (shown s.pages) → Walked s (parts_of (segment_says s)) 0 0 page (replicate 16 zero_range)
  unfolding last_lsn parts_of
  walk_starts page q = record {
    long = length-replicate 16 zero_range;
    told = λ rs h. rw (← q) h;
    rest = refl;
    rising = rw q ok_rising;
    fits = omega (arith, ok_sum s e);
  }

module _ (s : SegmentIdx) (t : s.len ≤ length s.frames) (parts : List Part) (i byte page : ℕ) (places : List SegmentRange) (w : Walked s parts i byte page places) where
  module _ (h : i < s.len) (few : i < 16) where
    -- the sum of the sizes so far fits
    pub next_fits : byte + (get_or s.frames i zero_frame).size ≤ 18446744073709551615
    next_fits = omega (arith, w.fits, total_here s t i 0 byte page h)

    here : lasts_from page (frame_says (get_or s.frames i zero_frame) ∷ drop (i + 1) (listed s)) ≡ true
    here = ap (lasts_from page) (sym (front s t i h)) ∙ w.rising

    -- the frame does not end before its first page
    pub next_page_lem : page ≤ (get_or s.frames i zero_frame).last.0
    unfolding lasts_from
    next_page_lem = let q : leb page (get_or s.frames i zero_frame).last.0 ≡ true = and_fst _ _ (and_fst _ _ here) in leb-true _ _ q

    next_rising : lasts_from ((get_or s.frames i zero_frame).last.0 + 1) (drop (i + 1) (listed s)) ≡ true
    unfolding lasts_from
    next_rising = and_snd (leb page (get_or s.frames i zero_frame).last.0 && leb (get_or s.frames i zero_frame).last.0 last_page) _ here

    -- one place more
    module _ (r : SegmentRange) where
      abbrev this : Part
      this = record { sid = s.sid; start = byte; end = byte + (get_or s.frames i zero_frame).size; pages = span page (get_or s.frames i zero_frame).last.0 (shown s.pages) }

      next_told : IsRange this r → (rs : List SegmentRange)
          → AreRanges (parts_from (segment_says s) (byte + (get_or s.frames i zero_frame).size) ((get_or s.frames i zero_frame).last.0 + 1) (drop (i + 1) (listed s))) rs
          → AreRanges parts (take (i + 1) (set places i r) ++ rs)
      unfolding AreRanges
      next_told k rs g =
          rw (← taken places i r rs (omega (arith, w.long)))
          (w.told (r ∷ rs) (rw (front s t i h) (k, g)))

      pub walks_on : IsRange this r
          → Walked s parts (i + 1) (byte + (get_or s.frames i zero_frame).size) ((get_or s.frames i zero_frame).last.0 + 1) (set places i r)
      walks_on k = record {
        long = length-set places i r ∙ w.long;
        told = next_told k;
        rest = rest_step zero_range places i 16 r few w.rest;
        rising = next_rising;
        fits = omega (arith, w.fits, total_here s t i 0 byte page h);
      }

  -- all are filled
  pub walk_ends : s.len ≤ i → length parts ≡ i → Filled parts places
  unfolding AreRanges
  walk_ends h q = record {
    parts = rw (q, ← append-nil (take i places)) (w.told [] (rw (ended s t i h) tt));
    rest = rw q w.rest;
  }

-- as many parts as frames
pub parts_length : (s : R.Segment) (byte page : ℕ) (fs : List R.Frame) → length (parts_from s byte page fs) ≡ length fs
parts_length s byte page [] = refl
parts_length s byte page (f ∷ fs) = ap suc (parts_length s (byte + f.size) (f.last + 1) fs)

pub parts_long : (s : SegmentIdx) → s.len ≤ length s.frames → length (parts_of (segment_says s)) ≡ s.len
unfolding parts_of
parts_long s t = parts_length (segment_says s) 0 (start_page (shown s.pages)) (listed s) ∙ long s t 0

-- ---- the rule, at each of the code's answers

module _ (s : SegmentIdx) (r : Result FrameList Refusal) where
  pub lists_bad : frames_ok s ≡ false → Lists r (refused 3) → Lists r (list_rule s)
  unfolding list_rule frame_list
  lists_bad e h = rw (← formed_bad s (done (parts_of (segment_says s))) e) h

  pub lists_all : frames_ok s ≡ true → Lists r (done (parts_of (segment_says s))) → Lists r (list_rule s)
  unfolding list_rule frame_list
  lists_all e h = rw (← formed_ok s (done (parts_of (segment_says s))) e) h

-- ---- the promise determines the answer

one_list : (fs : List Part) (x y : List SegmentRange) → AreRanges fs x → AreRanges fs y → x ≡ y
unfolding AreRanges
one_list [] [] [] h k = refl
one_list [] [] (r ∷ y) h k = absurd k
one_list [] (r ∷ x) y h k = absurd h
one_list (f ∷ fs) [] y h k = absurd h
one_list (f ∷ fs) (r ∷ x) [] h k = absurd k
one_list (f ∷ fs) (r ∷ x) (t ∷ y) h k = ap₂ ◌∷◌ (one_range f r t h.0 k.0) (one_list fs x y h.1 k.1)

one_filling : (fs : List Part) (x y : List SegmentRange) → Filled fs x → Filled fs y → x ≡ y
one_filling fs x y h k =
    sym (take-append-drop (length fs) x)
    ∙ ap₂ ◌++◌ (one_list fs _ _ h.parts k.parts) (h.rest ∙ sym k.rest)
    ∙ take-append-drop (length fs) y

pub one_answer : (q : Answer (List Part)) (x y : Result FrameList Refusal) → Lists x q → Lists y q → x ≡ y
one_answer (refused n) (Err a) (Err b) h k = ap (λ (r : Refusal). Err r) (one_refusal a b (h ∙ sym k))
one_answer (refused n) (Err a) (Ok l) h k = absurd k
one_answer (refused n) (Ok l) y h k = absurd h
one_answer (done fs) (Err a) y h k = absurd h
one_answer (done fs) (Ok l) (Err b) h k = absurd k
one_answer (done fs) (Ok l) (Ok m) h k =
    let c = h.0 ∙ sym k.0 in
    let s = one_filling fs l.frames m.frames h.1 k.1 in
    λ i. Ok (record { len = c i; frames = s i })
