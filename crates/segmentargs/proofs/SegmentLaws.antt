-- Segments and ranges across the boundary: an answer by value and what is left of it. A range whose set is in normal form fills a lent slice of its size. Assumes nothing.
use Rattle.std.proofs.Common.{◌≡◌, ℕ, Bool, true, false, cond, ◌&&◌, eqb, leb, List, ◌++◌, length, sym, refl, ap, ◌∙◌, ap₂, arith, length-append, eq-eqb, ne_eqb, Option as Maybe, Result}
use mathlib.Core.Option.{Option, none, some}
use Rattle.octets.specs.Bytes.{bytes_of, part}
use Rattle.octets.proofs.Numbers.{length_bytes_of}
use Rattle.basics.specs.Answers.{Answer, refused, done, code, ask, ◌>>=◌, ◌>>◌}
use Rattle.basics.specs.Numbers.{counts}
use Rattle.basics.specs.declared.refusal.Refusal.{Refusal}
use Rattle.pageset.specs.Sets.{normal, normal_form, shown}
use Rattle.pageset.proofs.FormLaws.{and_fst, and_snd, and_both, shown_form}
use Rattle.rules.specs.Forms.{lists_form}
use Rattle.rules.specs.Frames.{Part, frame_of, part_of, touching, joined_part, join}
use Rattle.commit.specs.declared.SegmentIdx.{SegmentIdx}
use Rattle.commit.specs.declared.SegmentRange.{SegmentRange}
use Rattle.commit.specs.Says.{range_says, answer_says, segment_says, Tells}
use Rattle.frames.specs.Rules.{frame_rule, spelled}
use Rattle.ranges.specs.Rules.{join_rule}
use Rattle.layout.specs.Codecs.{in_form}
use Rattle.layout.specs.Values.{set_bytes, window_bytes, frames_bytes, frame_bytes, segment_bytes, part_bytes}
use Rattle.segmentbytes.specs.Laid.{part_form}
use Rattle.arguments.specs.declared.Reply.{Reply}
use Rattle.arguments.specs.Replies.{none_under}
use Rattle.segmentargs.specs.Segments.{not_arange, range_in, range_arg, range_bytes, range_left, touch_rule, join_left, range_put}
use Rattle.arguments.proofs.SetLaws.{Early, is_early, set_long}
use Rattle.layout.specs.Lent.{sized}
use Rattle.arguments.specs.Sets.{early}
use Rattle.arguments.proofs.ArgLaws.{whole}

pub segment_size : segment_bytes.size ≡ 594
unfolding segment_bytes set_bytes window_bytes frames_bytes frame_bytes
segment_size = refl

pub range_size : part_bytes.size ≡ 417
unfolding part_bytes set_bytes window_bytes
range_size = refl

pub range_long : (x : SegmentRange) → length x.sid ≡ 16 → normal x.pages ≡ true → length (part_bytes.spell (range_says x)) ≡ 417
unfolding part_bytes
range_long x l h =
    let a = bytes_of 8 x.start in
    let b = bytes_of 8 x.end in
    let c = set_bytes.spell (shown x.pages) in
    omega
    (arith, length-append x.sid (a ++ (b ++ c)), length-append a (b ++ c), length-append b c, length_bytes_of 8 x.start, length_bytes_of 8 x.end, set_long x.pages h)

-- ---- a range in bytes, by the tests that the code makes

module _ (b : List ℕ) where
  sized_arg : (t : Bool) → eqb (length b) 417 ≡ t → cond t (range_in (in_form part_bytes part_form b) (part_bytes.read b)) not_arange ≡ range_arg b
  unfolding range_arg
  sized_arg t e = ap (λ (u : Bool). cond u (range_in (in_form part_bytes part_form b) (part_bytes.read b)) not_arange) (sym (ap (eqb (length b)) range_size ∙ e))

  pub arg_other : (length b ≡ 417 → ⊥) → not_arange ≡ range_arg b
  arg_other h = sized_arg false (ne_eqb (length b) 417 h)

  -- of its size: formed or not
  pub arg_range : (f : Bool) → length b ≡ 417 → in_form part_bytes part_form (part 0 417 b) ≡ f → range_in f (part_bytes.read (part 0 417 b)) ≡ range_arg b
  arg_range f e h =
      ap₂ (λ (u : Bool) (x : List ℕ). range_in u (part_bytes.read x)) (sym h ∙ ap (in_form part_bytes part_form) (whole 417 b e)) (whole 417 b e) ∙ sized_arg true (eq-eqb (length b) 417 e)

-- ---- an answer by value, as it is put

module _ (was : List ℕ) (q : Answer (Option Part)) where
  by : Bool → Bool → Reply × List ℕ
  by e l = cond e (none_under (code q), was) (cond l (range_bytes was q) (none_under 3, was))

  is_by : (e l : Bool) → early (code q) ≡ e → eqb (length was) 417 ≡ l → by e l ≡ range_put was q
  unfolding range_put by
  is_by e l p r = rw (← p, ← r)

  -- 1, 2 or 3
  pub put_early : early (code q) ≡ true → (none_under (code q), was) ≡ range_put was q
  unfolding by
  put_early p = is_by true (eqb (length was) 417) p refl

  module _ (p : early (code q) ≡ false) where
    -- a lent slice of another length
    pub put_short : (length was ≡ 417 → ⊥) → (none_under 3, was) ≡ range_put was q
    unfolding by
    put_short h = is_by false false p (ne_eqb (length was) 417 h)

    -- 22, nothing or a range
    pub put_shown : length was ≡ 417 → range_bytes was q ≡ range_put was q
    unfolding by
    put_shown e = is_by false true p (eq-eqb (length was) 417 e)

-- ---- what is left of an answer to a rule

-- what comes after the lent slice refuses by 22
abbrev Late : {A : Type 0} → Answer A → Type 0
Late (refused n) = n ≡ 22
Late (done x) = Unit {0}

ends : {A : Type 0} (q : Answer A) → (q >>= done) ≡ q
ends (refused n) = refl
ends (done x) = refl

module _ (was : List ℕ) where
  abbrev left_by : Bool → Answer (Option Part) → Reply × List ℕ
  left_by l y = cond l (range_bytes was y) (none_under 3, was)

  -- after the lent slice: 22, nothing or the range
  late_range : (y : Answer (Option Part)) → Late y → range_put was y ≡ left_by (eqb (length was) 417) y
  unfolding range_put
  late_range (refused n) l = rw l
  late_range (done x) l = refl

  -- the lent slice between the two
  between : (l : Bool) (x : Option Part) (late : Option Part → Answer (Option Part)) → left_by l (late x) ≡ range_bytes was ((ask l 3 >> done x) >>= late)
  between true x late = refl
  between false x late = refl

  -- a rule whose last numbers come after the lent slice
  left_range_late : (q : Answer (Option Part)) (late : Option Part → Answer (Option Part)) → Early q → ((x : Option Part) → Late (late x))
      → range_put was (q >>= late) ≡ range_bytes was (sized part_bytes.size was q >>= late)
  left_range_late (refused n) late l h = sym (put_early was (refused n) (is_early n l.0 l.1))
  left_range_late (done x) late l h =
      late_range (late x) (h x) ∙ between (eqb (length was) 417) x late ∙ ap (λ (n : ℕ). range_bytes was ((ask (eqb (length was) n) 3 >> done x) >>= late)) (sym range_size)

  -- and one that has none
  pub left_range : (r : Result (Maybe SegmentRange) Refusal) (q : Answer (Option Part)) → Early q → Tells r q → range_put was (answer_says r) ≡ range_left was q
  left_range r q l e =
      ap (range_put was) (e.says ∙ sym (ends q)) ∙ left_range_late q done l (λ x. tt) ∙ ap (range_bytes was) (ends (sized part_bytes.size was q))

four : {A : Type 0} (b c d e : Bool) (x : A) → Early (ask b 1 >> (ask c 3 >> (ask d 1 >> (ask e 3 >> done x))))
four true true true true x = tt
four true true true false x = (omega arith, omega arith)
four true true false e x = (omega arith, omega arith)
four true false d e x = (omega arith, omega arith)
four false c d e x = (omega arith, omega arith)

pub frame_early : (s : SegmentIdx) (p : ℕ) → Early (frame_rule s p)
unfolding frame_rule frame_of
frame_early s p = four (counts p) (spelled s) (counts p) (lists_form (segment_says s)) (part_of (segment_says s) p)

-- ---- joining two ranges

join_chain : (t u v : Bool) (x : Option Part) → (u ≡ true → v ≡ true) → (ask t 2 >> (ask u 3 >> (ask t 2 >> (ask v 3 >> joined_part x)))) ≡ ((ask t 2 >> (ask u 3 >> done x)) >>= joined_part)
join_chain false u v x h = refl
join_chain true false v x h = refl
join_chain true true v x h = ap (λ (w : Bool). ask w 3 >> joined_part x) (h refl)

-- the rule by value asks 2 and 3 twice
join_touch : (a b : SegmentRange) → join_rule a b ≡ (touch_rule a b >>= joined_part)
unfolding join_rule join touch_rule
join_touch a b =
    join_chain (leb a.start a.end && leb b.start b.end) (normal a.pages && normal b.pages) (normal_form (shown a.pages) && normal_form (shown b.pages)) (touching (range_says a) (range_says b))
    (λ h. and_both _ _ (shown_form a.pages (and_fst (normal a.pages) (normal b.pages) h)) (shown_form b.pages (and_snd (normal a.pages) (normal b.pages) h)))

two_three : {A : Type 0} (t u : Bool) (x : A) → Early (ask t 2 >> (ask u 3 >> done x))
two_three true true x = tt
two_three true false x = (omega arith, omega arith)
two_three false u x = (omega arith, omega arith)

over_32 : (t : Bool) (f : Part) → Late (ask t 22 >> done (some f))
over_32 true f = tt
over_32 false f = refl

joined_late : (x : Option Part) → Late (joined_part x)
joined_late none = tt
joined_late (some f) = over_32 (leb (length f.pages) 32) f

pub left_join : (was : List ℕ) (r : Result (Maybe SegmentRange) Refusal) (a b : SegmentRange) → Tells r (join_rule a b) → range_put was (answer_says r) ≡ join_left was a b
unfolding touch_rule
left_join was r a b e =
    ap (range_put was) (e.says ∙ join_touch a b)
    ∙ left_range_late was (touch_rule a b) joined_part (two_three (leb a.start a.end && leb b.start b.end) (normal a.pages && normal b.pages) (touching (range_says a) (range_says b))) joined_late
