-- The frames of a row and which of them are missing. A row's segment stands in it, in form, so that each frame read there is the rules' frame of that number. A frame meets a gift where
-- the cut of its set by the gift has a window, and its first page is the lowest of its set. Assumes nothing.
use Rattle.std.proofs.Common.{◌≡◌, ℕ, ◌+◌, ◌*◌, ◌^◌, ◌<◌, ◌≤◌, Bool, true, false, not, ◌&&◌, List, [], ◌∷◌, length, drop, sym, refl, ap, ◌∙◌, subst, arith, drop_of_length-le, Option as Maybe}
use mathlib.Core.Option.{Option, none, some}
use Rattle.basics.specs.declared.pageidx.PageIdx.{PageIdx}
use Rattle.octets.specs.Bytes.{part}
use Rattle.basics.specs.Says.{maybe_page_says}
use Rattle.pageset.specs.declared.PageSet.{PageSet}
use Rattle.pageset.specs.Sets.{shown, member, normal}
use Rattle.pageset.specs.Counts.{lowest}
use Rattle.pageset.specs.Says.{IsSet}
use Rattle.pageset.proofs.FormLaws.{normal_fact, shown_length}
use Rattle.rules.specs.Lists.{those, is_some, is_none}
use Rattle.rules.specs.Records as R
use Rattle.rules.specs.Pages.{is_empty, common, first_page}
use Rattle.rules.specs.Forms.{segment_form}
use Rattle.rules.specs.Tables.{Table, get_present}
use Rattle.rules.specs.Frames.{Part, parts_of}
use Rattle.rules.specs.Walk.{absent, is_missing}
use Rattle.rules.proofs.PageLaws.{form_rising, holds_common}
use Rattle.rules.proofs.PageCounts.{first_page_lem, common_normal}
use Rattle.commit.specs.declared.SegmentRange.{SegmentRange}
use Rattle.commit.specs.Says.{range_says}
use Rattle.commit.proofs.SetLaws.{form_of, one_list}
use Rattle.frames.proofs.PlaceLaws.{form_rises}
use Rattle.table.specs.Table.{count_of}
use Rattle.layout.specs.Values.{frames_bytes, segment_bytes}
use Rattle.layout.specs.Tables.{commits_ok}
use Rattle.layout.proofs.FormHolds.{segment_held}
use Rattle.segmentbytes.proofs.SegmentLaws.{segment_at}
use Rattle.commits.specs.Places.{commit_at}
use Rattle.segmentargs.specs.Lists.{segment_in, IsFrame}
use Rattle.segmentargs.proofs.ListLaws.{frames_few, parts_long}
use Rattle.gifts.specs.Steps.{segment_of}
use Rattle.walkcalls.proofs.ItemLaws.{form, row_segment}
use Rattle.missingcalls.specs.Cursors.{frames_at, frames_left, Fit}

-- ---- a set without windows

is_empty_lem : (ws : R.Pages) → length ws ≡ 0 → is_empty ws ≡ true
is_empty_lem [] e = refl
is_empty_lem (w ∷ ws) e = absurd (omega arith)

not_empty : (ws : R.Pages) → (length ws ≡ 0 → ⊥) → is_empty ws ≡ false
not_empty [] n = absurd (n refl)
not_empty (w ∷ ws) n = refl

-- ---- the frames of a row

module _ (t : List ℕ) (ok : commits_ok t ≡ true) (i : ℕ) (l : i < count_of t) (has : is_some (commit_at t i).segment ≡ true) where
  abbrev this : R.Segment
  this = segment_of (commit_at t i).segment

  -- its segment, 63 bytes from where the row begins
  module _ (at : ℕ) (p : (at ≡ 2 + i * 722) × (at + 722 ≤ length t)) where
    stands : segment_in (at + 63) t ≡ this
    stands = ap segment_bytes.read (row_segment t ok i l has at p.0) ∙ back
      where
        back : segment_bytes.read (segment_bytes.spell this) ≡ this
        back = (segment_held this (form t ok i l has)).back

    -- how many frames there are
    module _ (n : ℕ) (e : n ≡ length (frames_bytes.read (part (at + 63 + 401) 193 t))) where
      counted : n ≡ length (segment_in (at + 63) t).frames
      counted = e ∙ sym (ap (λ (s : R.Segment). length s.frames) (segment_at t (at + 63)))

      pub row_few : n ≤ 16
      row_few = omega (arith, counted, frames_few t (at + 63) (omega (arith, p.1)))

      -- none from a number on
      pub frames_end : (j : ℕ) → n ≤ j → drop j (frames_at t i) ≡ []
      frames_end j k = drop_of_length-le (frames_at t i) {i = j} (omega (arith, counted, parts_long this, ap (λ (s : R.Segment). length s.frames) stands))

      -- one of them is asked for
      pub frame_asked : (j : ℕ) → j < n → (at + 63 + 594 ≤ length t) × (segment_form (segment_in (at + 63) t) ≡ true) × (j < length (segment_in (at + 63) t).frames)
      frame_asked j k = (omega (arith, p.1), ap segment_form stands ∙ form t ok i l has, omega (arith, counted))

    -- and is the row's
    pub row_frame : (j : ℕ) (r : SegmentRange) → IsFrame (parts_of (segment_in (at + 63) t)) j r → IsFrame (frames_at t i) j r
    row_frame j r h = subst (λ (s : R.Segment). IsFrame (parts_of s) j r) stands h

-- a frame fills its bytes
pub frame_fit : (fs : List Part) (j : ℕ) (r : SegmentRange) → IsFrame fs j r → Fit r
frame_fit fs j r h = record { sid = h.sid; normal = h.normal }

-- ---- a turn over the frames

module _ (ps : Table R.Present) (g : R.Pages) (fs : List Part) (j : ℕ) where
  pub frame_yes : (x : Part) → drop j fs ≡ x ∷ drop (j + 1) fs → is_missing ps g x ≡ true → frames_left ps g fs j ≡ x ∷ frames_left ps g fs (j + 1)
  unfolding those
  frame_yes x e h = ap (those (is_missing ps g)) e ∙ rw h

  pub frame_no : (x : Part) → drop j fs ≡ x ∷ drop (j + 1) fs → is_missing ps g x ≡ false → frames_left ps g fs j ≡ frames_left ps g fs (j + 1)
  unfolding those
  frame_no x e h = ap (those (is_missing ps g)) e ∙ rw h

  pub frame_none : drop j fs ≡ [] → frames_left ps g fs j ≡ []
  unfolding those
  frame_none e = ap (those (is_missing ps g)) e

-- ---- whether a frame is missing

common_is : (a b r : PageSet) → normal a ≡ true → IsSet (λ p. member a p && member b p) r → shown r ≡ common (shown a) (shown b)
common_is a b r e h =
    let f = form_of a e in
    one_list (shown r) (common (shown a) (shown b)) (normal_fact r h.normal).rising (form_rises _ (common_normal (shown a) (shown b) f))
    (λ p. h.pages p ∙ sym (holds_common 0 (shown a) (form_rising (shown a) f) (shown b) p))

module _ (ps : Table R.Present) (x : SegmentRange) (g r : PageSet) (e : normal x.pages ≡ true) (h : IsSet (λ p. member x.pages p && member g p) r) where
  long : length (shown r) ≡ r.len
  long = shown_length r (normal_fact r h.normal).tidy

  meets : (b : Bool) → is_empty (shown r) ≡ b → is_missing ps (shown g) (range_says x) ≡ not b && absent ps x.sid (first_page (shown x.pages))
  meets b q = ap (λ (c : Bool). not c && absent ps x.sid (first_page (shown x.pages))) (sym (ap is_empty (common_is x.pages g r e h)) ∙ q)

  -- it meets no page of the gift
  pub not_met : r.len ≡ 0 → false ≡ is_missing ps (shown g) (range_says x)
  not_met z = sym (meets true (is_empty_lem (shown r) (long ∙ z)))

  module _ (n : r.len ≡ 0 → ⊥) (m : Maybe PageIdx) (k : maybe_page_says m ≡ lowest (member x.pages) (2 ^ 32)) where
    firsts : is_missing ps (shown g) (range_says x) ≡ absent ps x.sid (maybe_page_says m)
    firsts = meets false (not_empty (shown r) (λ z. n (sym long ∙ z))) ∙ ap (absent ps x.sid) (first_page_lem (shown x.pages) (form_of x.pages e) ∙ sym k)

    -- its first page decides
    pub by_first : (p : ℕ) (b : Bool) → maybe_page_says m ≡ some p → b ≡ is_some (get_present ps x.sid p) → not b ≡ is_missing ps (shown g) (range_says x)
    by_first p b q f = ap not f ∙ other (get_present ps x.sid p) ∙ sym (firsts ∙ ap (absent ps x.sid) q)
      where
        other : (o : Option R.Present) → not (is_some o) ≡ is_none o
        other none = refl
        other (some y) = refl

    pub no_first : maybe_page_says m ≡ none → false ≡ is_missing ps (shown g) (range_says x)
    no_first q = sym (firsts ∙ ap (absent ps x.sid) q)
