-- The frames of a segment, as a loop meets them: what is left, the domain of what is left, and where frame 1 starts. Assumes nothing.
use Rattle.std.proofs.Common.{◌≡◌, ℕ, zero, suc, ◌+◌, ◌-◌, ◌^◌, ◌<◌, ◌≤◌, Bool, true, false, cond, ◌&&◌, eqb, leb, List, [], ◌∷◌, length, get_or, take, drop, sym, refl, ap, ◌∙◌, ap₂, add-one, arith, drop_of_length-le, length-take, length-take-le, drop-cons, get_or-take, eq-eqb, ne_eqb, le-leb, leb-false, leb-true}
use mathlib.Core.Option.{Option, none, some}
use borrow.Author.Tests.{lt-leb}
use lib.ListN.{length-map, get_or-map}
use Rattle.basics.specs.Numbers.{last_lsn, last_page}
use Rattle.pageset.specs.declared.PageSet.{PageSet}
use Rattle.pageset.specs.Sets.{shown, member, normal}
use Rattle.pageset.specs.Counts.{lowest, or_else}
use Rattle.pageset.proofs.FormLaws.{and_left, and_right, clash, normal_fact, shown_form}
use Rattle.rules.specs.Records as R
use Rattle.rules.specs.Pages.{first_page}
use Rattle.rules.specs.Forms.{or_one, start_page, lasts_from, total, frames_form, lists_form}
use Rattle.rules.proofs.PageCounts.{first_page_lem}
use Rattle.commit.specs.declared.Frame.{Frame}
use Rattle.commit.specs.declared.SegmentIdx.{SegmentIdx}
use Rattle.commit.specs.Builders.{zero_frame}
use Rattle.commit.specs.Says.{frame_says, listed}
use Rattle.frames.specs.Rules.{no_frames, spelled, frames_ok}

-- ---- the frames that a walk bit left

module _ (s : SegmentIdx) (t : s.len ≤ length s.frames) (i : ℕ) where
  pub long : length (listed s) ≡ s.len
  long = length-map (take s.len s.frames) frame_says ∙ length-take-le s.len s.frames t

  -- the next frame, and the rest
  pub front : i < s.len → drop i (listed s) ≡ frame_says (get_or s.frames i zero_frame) ∷ drop (i + 1) (listed s)
  front h =
      let k : i < length (listed s) = rw long h in
      rw add-one
      (drop-cons (listed s) i (frame_says zero_frame) k
      ∙ ap (λ (f : R.Frame). f ∷ drop (suc i) (listed s))
      (get_or-map frame_says (take s.len s.frames) i zero_frame ∙ ap frame_says (get_or-take s.len s.frames i zero_frame h)))

  -- none is left
  pub ended : s.len ≤ i → drop i (listed s) ≡ []
  ended h = drop_of_length-le (listed s) {i = i} (rw long h)

-- ---- zero frames

module _ (fs : List Frame) (t : length fs ≡ 16) (i : ℕ) where
  pub clear_end : 16 ≤ i → no_frames (drop i fs) ≡ true
  unfolding no_frames
  clear_end h = ap no_frames (drop_of_length-le fs {i = i} (omega arith))

  module _ (h : i < 16) where
    pair : no_frames (drop i fs) ≡ no_frames (get_or fs i zero_frame ∷ drop (i + 1) fs)
    pair = let l : i < length fs = omega arith in rw (add-one, drop-cons fs i zero_frame)

    pub clear_size : ((get_or fs i zero_frame).size ≡ 0 → ⊥) → no_frames (drop i fs) ≡ false
    unfolding no_frames
    clear_size n = pair ∙ and_left _ _ (and_left _ _ (ne_eqb _ 0 n))

    pub clear_last : ((get_or fs i zero_frame).last.0 ≡ 0 → ⊥) → no_frames (drop i fs) ≡ false
    unfolding no_frames
    clear_last n = pair ∙ and_left _ _ (and_right (eqb (get_or fs i zero_frame).size 0) _ (ne_eqb _ 0 n))

    pub clear_step : (get_or fs i zero_frame).size ≡ 0 → (get_or fs i zero_frame).last.0 ≡ 0 → no_frames (drop i fs) ≡ no_frames (drop (i + 1) fs)
    unfolding no_frames
    clear_step p q = pair ∙ ap₂ (λ (a b : Bool). (a && b) && no_frames (drop (i + 1) fs)) (eq-eqb _ 0 p) (eq-eqb _ 0 q)

-- ---- the domain

-- the last pages rise from a page on, and the sizes sum to at most a number
abbrev pub domain : ℕ → ℕ → List R.Frame → Bool
domain page room fs = lasts_from page fs && leb (total fs) room

module _ (s : SegmentIdx) (t : s.len ≤ length s.frames) (i below room : ℕ) where
  pub domain_end : s.len ≤ i → domain (below + 1) room (drop i (listed s)) ≡ true
  unfolding lasts_from
  domain_end h = ap (domain (below + 1) room) (ended s t i h) ∙ le-leb 0 room (omega arith)

  module _ (h : i < s.len) where
    abbrev here : Frame
    here = get_or s.frames i zero_frame

    next : domain (below + 1) room (drop i (listed s)) ≡ domain (below + 1) room (frame_says here ∷ drop (i + 1) (listed s))
    next = ap (domain (below + 1) room) (front s t i h)

    pub domain_low : (get_or s.frames i zero_frame).last.0 ≤ below → domain (below + 1) room (drop i (listed s)) ≡ false
    unfolding lasts_from
    domain_low l = next ∙ and_left _ _ (and_left _ _ (and_left _ _ (lt-leb (below + 1) here.last.0 (omega arith))))

    pub domain_over : room < (get_or s.frames i zero_frame).size → domain (below + 1) room (drop i (listed s)) ≡ false
    domain_over l =
        next ∙ and_right (lasts_from (below + 1) (frame_says here ∷ drop (i + 1) (listed s))) _ (lt-leb (here.size + total (drop (i + 1) (listed s))) room (omega arith))

    pub domain_step : below < (get_or s.frames i zero_frame).last.0 → (get_or s.frames i zero_frame).last.0 < 2 ^ 32 → (get_or s.frames i zero_frame).size ≤ room
        → domain (below + 1) room (drop i (listed s)) ≡ domain ((get_or s.frames i zero_frame).last.0 + 1) (room - (get_or s.frames i zero_frame).size) (drop (i + 1) (listed s))
    unfolding lasts_from last_page
    domain_step a b c =
        next
        ∙ ap₂ (λ (x y : Bool). ((x && y) && lasts_from (here.last.0 + 1) (drop (i + 1) (listed s))) && leb (here.size + total (drop (i + 1) (listed s))) room)
        (le-leb (below + 1) here.last.0 (omega arith)) (le-leb here.last.0 (2 ^ 32 - 1) (omega arith))
        ∙ ap (λ (b : Bool). lasts_from (here.last.0 + 1) (drop (i + 1) (listed s)) && b) (leb_shift here.size (total (drop (i + 1) (listed s))) room c)
      where
        leb_shift : (a b r : ℕ) → a ≤ r → leb (a + b) r ≡ leb b (r - a)
        leb_shift a b r h = cases (leb b (r - a)) refl
          where
            cases : (x : Bool) → leb b (r - a) ≡ x → leb (a + b) r ≡ x
            cases true e = le-leb (a + b) r (omega (arith, leb-true b (r - a) e))
            cases false e = lt-leb (a + b) r (omega (arith, leb-false b (r - a) e))

-- a segment's frames, within their number, are in the domain
pub whole_domain : (s : SegmentIdx) → s.len ≤ 16 → (page : ℕ) → page ≡ start_page (shown s.pages) → domain page last_lsn (listed s) ≡ frames_form (shown s.pages) (listed s)
unfolding frames_form
whole_domain s h page e =
    let l : length (listed s) ≤ 16 = omega (arith, length-map (take s.len s.frames) frame_says, length-take s.len s.frames) in
    rw (e, le-leb (length (listed s)) 16 l)

-- ---- where frame 1 starts

-- the lowest number that passes a test passes it, by what the numbers below say
either_passes : (f : ℕ → Bool) (n p : ℕ) (o : Option ℕ) (b : Bool) → f n ≡ b → (some p ≡ o → f p ≡ true) → some p ≡ or_else o (cond b (some n) none) → f p ≡ true
either_passes f n p (some m) b r h e = h e
either_passes f n p none true r h e = let z : p ≡ n = cc in rw z r
either_passes f n p none false r h e = absurd (let z : ◌≡◌ {A = ℕ} 0 1 = cc in omega arith)

lowest_passes : (f : ℕ → Bool) (n p : ℕ) → some p ≡ lowest f n → f p ≡ true
unfolding lowest
lowest_passes f zero p e = absurd (let z : ◌≡◌ {A = ℕ} 0 1 = cc in omega arith)
lowest_passes f (suc n) p e = either_passes f n p (lowest f n) (f n) refl (lowest_passes f n p) e

module _ (s : PageSet) (e : normal s ≡ true) where
  firsts : first_page (shown s) ≡ lowest (member s) (2 ^ 32)
  firsts = first_page_lem (shown s) (shown_form s e)

  -- at the set's first page, which is not 0
  pub starts_at : (p : ℕ) → some p ≡ lowest (member s) (2 ^ 32) → (0 < p) × (p ≡ start_page (shown s))
  starts_at p h = (positive p (lowest_passes (member s) (2 ^ 32) p h), ap or_one (h ∙ sym firsts))
    where
      positive : (p : ℕ) → member s p ≡ true → 0 < p
      positive zero m = absurd (clash (member s 0) m (normal_fact s e).no_zero)
      positive (suc p) m = omega arith

  -- at page 1 where the set is empty
  pub starts_one : none ≡ lowest (member s) (2 ^ 32) → 1 ≡ start_page (shown s)
  starts_one h = ap or_one (h ∙ sym firsts)

-- ---- the tests in the code's order

module _ (s : SegmentIdx) where
  pub not_normal : normal s.pages ≡ false → frames_ok s ≡ false
  unfolding frames_ok spelled
  not_normal e = and_left _ _ (and_left _ _ (and_left _ _ e))

  pub too_many : 16 < s.len → frames_ok s ≡ false
  unfolding frames_ok spelled
  too_many h = and_left _ _ (and_left _ _ (and_right (normal s.pages) _ (lt-leb s.len 16 h)))

  pub not_clear : no_frames (drop s.len s.frames) ≡ false → frames_ok s ≡ false
  unfolding frames_ok spelled
  not_clear e = and_left _ _ (and_right (normal s.pages && leb s.len 16) _ e)

  pub but_domain : normal s.pages ≡ true → s.len ≤ 16 → no_frames (drop s.len s.frames) ≡ true → frames_form (shown s.pages) (listed s) ≡ frames_ok s
  unfolding frames_ok spelled lists_form
  but_domain e h b = rw (e, le-leb s.len 16 h, b, shown_form s.pages e)
