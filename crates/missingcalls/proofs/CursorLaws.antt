-- A listing, step by step. What is left at a cursor is what is left of the record that is listed, then the missing frames of the items from the next number on; an item's own are
-- those of its segment by its gift. A step finds the first of what is left. Assumes nothing.
use Rattle.std.proofs.Common.{◌≡◌, ℕ, ◌+◌, ◌*◌, ◌<◌, ◌≤◌, Bool, true, false, leb, List, [], ◌∷◌, ◌++◌, length, sym, refl, ap, ◌∙◌, subst, arith, length-append, leb-true, Option as Maybe, Some, None}
use mathlib.Core.Option.{Option, none, some}
use Rattle.pageset.specs.Sets.{shown, normal}
use Rattle.rules.specs.Lists.{those, given}
use Rattle.rules.specs.Records as R
use Rattle.rules.specs.Pages.{is_empty}
use Rattle.rules.specs.Forms.{segment_form, lists_form, frames_form, commit_form}
use Rattle.rules.specs.Tables.{Table}
use Rattle.rules.specs.Frames.{Part, parts_of}
use Rattle.rules.specs.Walk.{Item, gift, item_of, walk_from, is_missing, missing_of}
use Rattle.rules.proofs.TableLaws.{cases, and_fst, and_snd}
use Rattle.table.specs.Table.{count_of}
use Rattle.layout.specs.Tables.{commits_ok}
use Rattle.rows.proofs.Checks.{row_form_lem}
use Rattle.rows.proofs.Tables.{commits}
use Rattle.commit.specs.Says.{range_says}
use Rattle.commit.proofs.RecordLaws.{one_range}
use Rattle.commits.specs.Places.{commit_at}
use Rattle.arguments.proofs.SetLaws.{empty_normal}
use Rattle.segmentargs.proofs.ListLaws.{parts_long}
use Rattle.gifts.specs.Paths.{Below, Inside, commits_at}
use Rattle.gifts.specs.Steps.{items_from}
use Rattle.gifts.specs.declared.Found.{Found as Gift}
use Rattle.gifts.proofs.WalkLaws.{FoundAt}
use Rattle.missingcalls.specs.declared.Cursor.{Cursor}
use Rattle.missingcalls.specs.declared.Missing.{Missing as Step}
use Rattle.missingcalls.specs.declared.FrameStep.{FrameStep}
use Rattle.missingcalls.specs.Cursors.{frames_at, frames_left, Fit, FrameBy, NextFrame, SoundAt, Sound, start_cursor, left_at, missing_left, StepBy, NextMissing}

-- ---- what a step says where it finds a frame, and where it finds none

module _ (ps : Table R.Present) (g : R.Pages) (fs : List Part) (j : ℕ) (s : FrameStep) (h : NextFrame ps g fs j s) where
  pub frame_found : s.found ≡ true → (frames_left ps g fs j ≡ range_says s.range ∷ frames_left ps g fs s.frame) × Fit s.range
  frame_found e = subst (λ (b : Bool). FrameBy b (frames_left ps g fs j) s.range (frames_left ps g fs s.frame)) e h.next

  pub frame_lacks : s.found ≡ false → frames_left ps g fs j ≡ []
  frame_lacks e = subst (λ (b : Bool). FrameBy b (frames_left ps g fs j) s.range (frames_left ps g fs s.frame)) e h.next

no_more : (x : Part) (l : List Part) → x ∷ l ≡ [] → ⊥
no_more x l e = omega (arith, ap length e)

module _ (t : List ℕ) (ps : Table R.Present) (count : ℕ) (places : List ℕ) where
  module _ (all : List Part) (s : Step) (h : NextMissing t ps count places all s) where
    pub step_found : s.found ≡ true → (all ≡ range_says s.range ∷ missing_left t ps count places s.rest) × (Fit s.range × Sound t s.rest)
    step_found e = subst (λ (b : Bool). StepBy t ps count places b all s) e h.next

    pub step_lacks : s.found ≡ false → all ≡ []
    step_lacks e = (subst (λ (b : Bool). StepBy t ps count places b all s) e h.next).0

  -- so the step's frame is one, and so is what it leaves
  module _ (all : List Part) (a b : Step) where
    by_found : (x y : Bool) → StepBy t ps count places x all a → StepBy t ps count places y all b
        → (x ≡ y) × ((a.range ≡ b.range) × (missing_left t ps count places a.rest ≡ missing_left t ps count places b.rest))
    by_found true true h k =
        let e : range_says a.range ∷ missing_left t ps count places a.rest ≡ range_says b.range ∷ missing_left t ps count places b.rest = sym h.0 ∙ k.0 in
        let f : range_says b.range ≡ range_says a.range = cc in
        let r : missing_left t ps count places a.rest ≡ missing_left t ps count places b.rest = cc in
        (refl, (one_range (range_says a.range) a.range b.range (record { says = refl; normal = h.1.0.normal }) (record { says = f; normal = k.1.0.normal }), r))
    by_found true false h k = absurd (no_more (range_says a.range) (missing_left t ps count places a.rest) (sym h.0 ∙ k.0))
    by_found false true h k = absurd (no_more (range_says b.range) (missing_left t ps count places b.rest) (sym k.0 ∙ h.0))
    by_found false false h k = (refl, (h.1.0 ∙ sym k.1.0, ap (missing_left t ps count places) (h.1.1 ∙ sym k.1.1)))

    pub one_step : NextMissing t ps count places all a → NextMissing t ps count places all b
        → (a.found ≡ b.found) × ((a.range ≡ b.range) × (missing_left t ps count places a.rest ≡ missing_left t ps count places b.rest))
    one_step h k = by_found a.found b.found h.next k.next

  pub same_left : (a b : List Part) (s : Step) → a ≡ b → NextMissing t ps count places a s → NextMissing t ps count places b s
  same_left a b s e h = subst (λ (x : List Part). NextMissing t ps count places x s) e h

  -- ---- the start

  pub start_left : missing_left t ps count places start_cursor ≡ missing_of ps (items_from t count places 0)
  unfolding missing_left
  start_left = refl

  pub start_sound : Sound t start_cursor
  start_sound = record { place = tt; gift = empty_normal }

  -- ---- a cursor

  abbrev later : ℕ → List Part
  later k = missing_of ps (items_from t count places k)

  -- no record is listed
  pub left_none : (c : Cursor) → c.at ≡ None → later c.next ≡ missing_left t ps count places c
  unfolding missing_left
  left_none c e = sym (ap (λ (x : Maybe ℕ). left_at t ps x (shown c.gift) c.frame ++ later c.next) e)

  left_is : (c : Cursor) (i : ℕ) → c.at ≡ Some i → missing_left t ps count places c ≡ frames_left ps (shown c.gift) (frames_at t i) c.frame ++ later c.next
  unfolding missing_left
  left_is c i e = ap (λ (x : Maybe ℕ). left_at t ps x (shown c.gift) c.frame ++ later c.next) e

  -- nothing is left of the record
  pub left_past : (c : Cursor) (i : ℕ) → c.at ≡ Some i → frames_left ps (shown c.gift) (frames_at t i) c.frame ≡ [] → later c.next ≡ missing_left t ps count places c
  left_past c i e h = sym (left_is c i e ∙ ap (λ (l : List Part). l ++ later c.next) h)

  pub sound_at : (c : Cursor) (i : ℕ) → Sound t c → c.at ≡ Some i → SoundAt t (Some i)
  sound_at c i h e = subst (SoundAt t) e h.place

  -- a frame of it is found
  module _ (i : ℕ) (c : Cursor) (d : SoundAt t (Some i)) (n : normal c.gift ≡ true) (f : FrameStep) (h : NextFrame ps (shown c.gift) (frames_at t i) c.frame f) (y : f.found ≡ true) where
    abbrev rest : Cursor
    rest = record { at = Some i; gift = c.gift; frame = f.frame; next = c.next }

    abbrev told : Step
    told = record { found = true; range = f.range; rest = rest }

    front : frames_left ps (shown c.gift) (frames_at t i) c.frame ++ later c.next ≡ range_says f.range ∷ missing_left t ps count places rest
    unfolding missing_left
    front = ap (λ (l : List Part). l ++ later c.next) (frame_found ps (shown c.gift) (frames_at t i) c.frame f h y).0

    tells : (all : List Part) → all ≡ frames_left ps (shown c.gift) (frames_at t i) c.frame ++ later c.next → NextMissing t ps count places all told
    tells all e = record { next = (e ∙ front, ((frame_found ps (shown c.gift) (frames_at t i) c.frame f h y).1, record { place = d; gift = n })) }

    pub left_here : c.at ≡ Some i → NextMissing t ps count places (missing_left t ps count places c) told
    left_here e = tells (missing_left t ps count places c) (left_is c i e)

  -- ---- the items of the path

  module _ (ok : commits_ok t ≡ true) (inside : Inside t places) (k : ℕ) (s : Gift) (i : ℕ) (h : FoundAt t places ok inside count k s i) where
    pub item_left : missing_of ps (items_from t count places k) ≡ frames_left ps (shown s.gift) (frames_at t i) 0 ++ later s.next
    item_left = ap (missing_of ps) h.items

    -- the item has none
    pub item_past : frames_left ps (shown s.gift) (frames_at t i) 0 ≡ [] → later k ≡ later s.next
    item_past e = item_left ∙ ap (λ (l : List Part). l ++ later s.next) e

    pub item_sound : SoundAt t (Some i)
    item_sound = (h.below, h.has)

    -- the item's first
    pub item_here : (all : List Part) → all ≡ later k → (f : FrameStep) → NextFrame ps (shown s.gift) (frames_at t i) 0 f → f.found ≡ true
        → NextMissing t ps count places all (record { found = true; range = f.range; rest = record { at = Some i; gift = s.gift; frame = f.frame; next = s.next } })
    item_here all e f m y = tells i (record { at = Some i; gift = s.gift; frame = 0; next = s.next }) item_sound h.normal f m y all (e ∙ item_left)

-- ---- how many there are at most: 16 for each commit

those_few : {A : Type 0} (f : A → Bool) (l : List A) → length (those f l) ≤ length l
unfolding those
those_few f [] = omega arith
those_few f (x ∷ l) = let r = those_few f l in cases (f x) (λ e. rw e (omega arith)) (λ e. rw e (omega arith))

parts_few : (s : R.Segment) → segment_form s ≡ true → length (parts_of s) ≤ 16
unfolding segment_form lists_form frames_form
parts_few s e =
    let q : leb (length s.frames) 16 ≡ true = search (and_fst, and_snd) in
    omega (arith, parts_long s, leb-true (length s.frames) 16 q)

item_few : (ps : Table R.Present) (c : R.Commit) (o : Option R.Segment) (g : R.Pages) (l : List Item) → given segment_form o ≡ true → length (missing_of ps (item_of c o g ++ l)) ≤ 16 + length (missing_of ps l)
item_few ps c none g l h = omega arith
item_few ps c (some s) g l h =
    cases (is_empty g) (λ e. rw e (omega arith))
    (λ e. rw e (omega (arith, length-append (those (is_missing ps g) (parts_of s)) (missing_of ps l), those_few (is_missing ps g) (parts_of s), parts_few s h)))

walk_few : (ps : Table R.Present) (t : List ℕ) (ok : commits_ok t ≡ true) (count : ℕ) (earlier : List R.Commit) (places : List ℕ) → Below (count_of t) places
    → length (missing_of ps (walk_from count earlier (commits_at t places))) ≤ 16 * length places
unfolding commit_form
walk_few ps t ok count earlier [] b = omega arith
walk_few ps t ok count earlier (p ∷ places) b =
    let c = commit_at t p in
    let f = row_form_lem commits t ok p b.0 in
    let s : given segment_form c.segment ≡ true = search (and_fst, and_snd) in
    omega (arith, item_few ps c c.segment (gift count earlier c) (walk_from count (c ∷ earlier) (commits_at t places)) s, walk_few ps t ok count (c ∷ earlier) places b.1)

pub missing_few : (ps : Table R.Present) (t places : List ℕ) (count : ℕ) → commits_ok t ≡ true → Inside t places → length (missing_of ps (items_from t count places 0)) < 4294967296
unfolding items_from
missing_few ps t places count ok i = omega (arith, walk_few ps t ok count [] places i.below, i.few)
