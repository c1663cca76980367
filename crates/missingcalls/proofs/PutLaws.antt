-- Missing frames as entries of a lent list. A list is filled entry by entry as far as it has places, and all entries are counted (`Filling`); what the frames of one item leave joins
-- what was put before (`put_run`). Assumes nothing.
use Rattle.std.proofs.Common.{◌≡◌, ℕ, ◌+◌, ◌-◌, ◌*◌, ◌/◌, ◌<◌, ◌≤◌, Bool, true, false, cond, leb, List, [], ◌∷◌, ◌++◌, length, take, drop, sym, refl, ap, ◌∙◌, subst, append_assoc, append-nil, arith, length-append, take_all, le-leb, leb-false, leb-true}
use borrow.Author.Tests.{lt-leb}
use lib.Seq.{take-append-le, take-nil}
use Rattle.octets.specs.Bytes.{put}
use Rattle.octets.specs.Flat.{flat}
use Rattle.octets.proofs.Places.{Stored, then_stored, length_put, put_none}
use Rattle.rules.specs.Records as R
use Rattle.rules.specs.Tables.{Table}
use Rattle.rules.specs.Frames.{Part}
use Rattle.rules.specs.Walk.{is_missing}
use Rattle.layout.specs.Values.{part_bytes}
use Rattle.resultlists.proofs.EntryLaws.{flat_append, flat_one, run_listed, slots_room}
use Rattle.resultlists.proofs.Putting.{Putting, put_length}
use Rattle.missingcalls.specs.Cursors.{frames_left}
use Rattle.missingcalls.specs.Entries.{entered, Entries}
use Rattle.missingcalls.proofs.FrameLaws.{frame_yes, frame_no}

abbrev spell : Part → List ℕ
spell x = part_bytes.spell x

module _ (was : List ℕ) (from : ℕ) (all : List Part) where
  -- the places from number `from` on
  abbrev room : ℕ
  room = length was / 417 - from

  -- the next is number `to`, t is what was lent with those before it, and the rest is left
  pub record Filling (to : ℕ) (t : List ℕ) (rest : List Part) : Type 0 where
    pub front : List Part
    pub whole : front ++ rest ≡ all
    pub number : to ≡ from + length front
    pub kept : length t ≡ length was
    pub stands : Entries from (take room front) was t

  none_yet : Entries from [] was was
  unfolding flat
  none_yet = record { long = refl; bytes = sym (put_none (from * 417) was) }

  pub fill_start : Filling from was all
  fill_start = record { front = []; whole = refl; number = omega arith; kept = refl; stands = subst (λ (l : List Part). Entries from l was was) (sym (take-nil room)) none_yet }

  module _ (to : ℕ) (t : List ℕ) (x : Part) (rest : List Part) (p : Filling to t (x ∷ rest)) where
    abbrev more : List Part
    more = p.front ++ (x ∷ [])

    more_long : length more ≡ length p.front + 1
    more_long = length-append p.front (x ∷ [])

    -- there is a place for it
    fill_put : length (spell x) ≡ 417 → to < length was / 417 → Filling (to + 1) (put (to * 417) (spell x) t) rest
    fill_put long h =
        let k = p.number in
        let a : take room p.front ≡ p.front = take_all room p.front (omega arith) in
        let b : take room more ≡ more = take_all room more (omega (arith, more_long)) in
        let before = subst (λ (l : List Part). Entries from l was t) a p.stands in
        let fits : (to + 1) * 417 ≤ length was = slots_room 417 (to + 1) was (omega arith) in
        let old : Stored (from * 417) (length p.front * 417) (flat spell p.front) was t = record { long = before.long; bytes = before.bytes } in
        let place : to * 417 ≡ from * 417 + length p.front * 417 = omega arith in
        let now = then_stored old 417 (spell x) long (omega arith) (ap (λ (n : ℕ). put n (spell x) t) place) in
        let joined : flat spell more ≡ flat spell p.front ++ spell x = flat_append spell p.front (x ∷ []) ∙ ap (λ (l : List ℕ). flat spell p.front ++ l) (flat_one spell x) in
        let total : length p.front * 417 + 417 ≡ length more * 417 = omega (arith, more_long) in
        record {
          front = more;
          whole = append_assoc p.front (x ∷ []) rest ∙ p.whole;
          number = omega (arith, more_long);
          kept = length_put (to * 417) (spell x) t (omega (arith, p.kept)) ∙ p.kept;
          stands =
              subst (λ (l : List Part). Entries from l was (put (to * 417) (spell x) t)) (sym b)
              (record { long = ap length joined ∙ now.long ∙ total; bytes = now.bytes ∙ ap (λ (l : List ℕ). put (from * 417) l was) (sym joined) });
        }

    -- there is none
    fill_skip : length was / 417 ≤ to → Filling (to + 1) t rest
    fill_skip h =
        let k = p.number in
        let b : take room more ≡ take room p.front = take-append-le room p.front (x ∷ []) (omega arith) in
        record {
          front = more;
          whole = append_assoc p.front (x ∷ []) rest ∙ p.whole;
          number = omega (arith, more_long);
          kept = p.kept;
          stands = subst (λ (l : List Part). Entries from l was t) (sym b) p.stands;
        }

  -- none is left
  module _ (to : ℕ) (t : List ℕ) (rest : List Part) (p : Filling to t rest) (e : rest ≡ []) where
    ended : p.front ≡ all
    ended = sym (append-nil p.front) ∙ ap (λ (r : List Part). p.front ++ r) (sym e) ∙ p.whole

    pub fill_number : to ≡ from + length all
    fill_number = p.number ∙ ap (λ (l : List Part). from + length l) ended

    pub fill_end : Entries from (take room all) was t
    fill_end = subst (λ (l : List Part). Entries from (take room l) was t) ended p.stands

-- a frame more
module _ (ps : Table R.Present) (g : R.Pages) (fs : List Part) (was : List ℕ) (from : ℕ) where
  module _ (j to : ℕ) (t : List ℕ) (x : Part) (e : drop j fs ≡ x ∷ drop (j + 1) fs) (long : length (spell x) ≡ 417) (p : Filling was from (frames_left ps g fs 0) to t (frames_left ps g fs j)) where
    placed_by : (m : is_missing ps g x ≡ true) (l : Bool) → leb (length t / 417) to ≡ l → Filling was from (frames_left ps g fs 0) (to + 1) (cond l t (put (to * 417) (spell x) t)) (frames_left ps g fs (j + 1))
    placed_by m l q =
        let d : length t / 417 ≡ length was / 417 = ap (λ (n : ℕ). n / 417) p.kept in
        let f = subst (Filling was from (frames_left ps g fs 0) to t) (frame_yes ps g fs j x e m) p in
        by l q d f
      where
        by : (l : Bool) → leb (length t / 417) to ≡ l → length t / 417 ≡ length was / 417 → Filling was from (frames_left ps g fs 0) to t (x ∷ frames_left ps g fs (j + 1))
            → Filling was from (frames_left ps g fs 0) (to + 1) (cond l t (put (to * 417) (spell x) t)) (frames_left ps g fs (j + 1))
        by true q d f = fill_skip was from (frames_left ps g fs 0) to t x (frames_left ps g fs (j + 1)) f (omega (arith, leb-true (length t / 417) to q))
        by false q d f = fill_put was from (frames_left ps g fs 0) to t x (frames_left ps g fs (j + 1)) f long (omega (arith, leb-false (length t / 417) to q))

    entered_by : (m : Bool) → is_missing ps g x ≡ m → Filling was from (frames_left ps g fs 0) (entered m to x t).0 (entered m to x t).1 (frames_left ps g fs (j + 1))
    entered_by true m = placed_by m (leb (length t / 417) to) refl
    entered_by false m = subst (Filling was from (frames_left ps g fs 0) to t) (frame_no ps g fs j x e m) p

    pub fill_frame : (r : ℕ) (u : List ℕ) → (r, u) ≡ entered (is_missing ps g x) to x t → Filling was from (frames_left ps g fs 0) r u (frames_left ps g fs (j + 1))
    fill_frame r u q = subst (λ (y : ℕ × List ℕ). Filling was from (frames_left ps g fs 0) y.0 y.1 (frames_left ps g fs (j + 1))) (sym q) (entered_by (is_missing ps g x) refl)

-- ---- one frame, at each way out of the code

module _ (m : Bool) (to : ℕ) (x : Part) (was : List ℕ) where
  pub entered_not : m ≡ false → (to, was) ≡ entered m to x was
  entered_not e = rw e

  pub entered_past : m ≡ true → length was / 417 ≤ to → (to + 1, was) ≡ entered m to x was
  entered_past e h = rw (e, le-leb (length was / 417) to h)

  pub entered_put : m ≡ true → to < length was / 417 → (u : List ℕ) → u ≡ put (to * 417) (spell x) was → (to + 1, u) ≡ entered m to x was
  entered_put e h u q = rw (e, lt-leb (length was / 417) to h, q)

-- the number goes up by one at most
pub entered_next : (m : Bool) (to : ℕ) (x : Part) (t : List ℕ) (r : ℕ) (u : List ℕ) → (r, u) ≡ entered m to x t → r ≤ to + 1
entered_next true to x t r u q = omega (arith, ap (λ (y : ℕ × List ℕ). y.0) q)
entered_next false to x t r u q = omega (arith, ap (λ (y : ℕ × List ℕ). y.0) q)

-- ---- the frames of one item after another

module _ (was : List ℕ) (all : List Part) (n : ℕ) (t : List ℕ) (l rest : List Part) (p : Putting part_bytes 417 was all n t (l ++ rest)) where
  pub run_few : n + length l + length rest ≡ length all
  run_few = omega (arith, p.number, ap length p.whole, length-append p.front (l ++ rest), length-append l rest)

  pub put_run : length all ≤ length was / 417 → (r : ℕ) (u : List ℕ) → r ≡ n + length l → Entries n (take (length t / 417 - n) l) t u → Putting part_bytes 417 was all r u rest
  put_run places r u q e =
      let k = p.number in
      let d : length t / 417 ≡ length was / 417 = ap (λ (m : ℕ). m / 417) (put_length part_bytes 417 was all n t (l ++ rest) p places) in
      let a : take (length t / 417 - n) l ≡ l = take_all (length t / 417 - n) l (omega (arith, run_few)) in
      let entries = subst (λ (m : List Part). Entries n m t u) a e in
      record {
        front = p.front ++ l;
        whole = append_assoc p.front l rest ∙ p.whole;
        number = omega (arith, length-append p.front l);
        listed =
            run_listed part_bytes 417 was p.front l t u p.listed entries.long (slots_room 417 (length p.front + length l) was (omega (arith, run_few)))
            (entries.bytes ∙ ap (λ (m : ℕ). put (m * 417) (flat spell l) t) k);
      }
