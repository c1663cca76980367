-- Laws of a line's words: a field read at a cursor leaves the cursor behind its word, and a call's fields follow one another so.
use Rattle.std.proofs.Common.{◌≡◌, ℕ, ◌+◌, ◌<◌, ◌≤◌, Bool, true, false, cond, ◌&&◌, leb, List, [], ◌∷◌, length, drop, sym, refl, ap, ◌∙◌, arith, le-leb, leb-false, leb-true}
use borrow.Author.Tests.{lt-leb}
use Rattle.basics.specs.Answers.{Answer, refused, done, ask, ◌>>=◌, ◌>>◌}
use Rattle.callline.specs.declared.fields.Cursor.{Cursor}
use Rattle.callline.specs.declared.fields.Field.{Field}
use Rattle.callline.specs.declared.fields.Place.{Place}
use Rattle.callline.specs.Texts.{Text, split, before, pieces_after, starts, is_text, between}
use Rattle.callline.specs.Values.{Range, malformed, last32, identifier_of, decimal_of, pages_of}
use Rattle.callline.specs.Lines.{Call, Open, Snap, Save, Find, Fetch, Pull, field, end, vid=, local=, remote=, slot=, count=, sid=, pages=, page=, log=, lsn=, last_slot, last64, open_of, snap_of, save_of, find_of, fetch_of, pull_of, op=open, op=snap, op=save, op=find, op=fetch, op=pull, call_of, meaning}
use Rattle.callline.specs.Says.{is_done, ranges_in, list_of, both, cursor_says, read_on, is_over, field_says, place_says, pages_says}
use Rattle.callline.proofs.TextLaws.{split_first, pieces, after_last, after_more, between_drop}
use Rattle.callline.proofs.ValueLaws.{pages_24}

module _ {A B : Type 0} (key : Text) (value : Text → Answer A) (then : A → List Text → Answer B) where
  field_cons : (w : Text) (ws : List Text) (q : Bool) → starts key w ≡ q → field key value then (w ∷ ws) ≡ (field key done both (w ∷ ws) >>= λ x. value x.0 >>= λ v. then v x.1)
  unfolding field
  field_cons w ws true e = rw e
  field_cons w ws false e = rw e

  -- a field is the text of its value first, and then the value
  field_through : (ws : List Text) → field key value then ws ≡ (field key done both ws >>= λ x. value x.0 >>= λ v. then v x.1)
  unfolding field
  field_through [] = refl
  field_through (w ∷ ws) = field_cons w ws (starts key w) refl

  through : (x : Answer (List Text)) → (x >>= field key value then) ≡ ((x >>= field key done both) >>= λ x. value x.0 >>= λ v. then v x.1)
  through (refused n) = refl
  through (done ws) = field_through ws

  value_both : (ws : List Text) (a : Answer A) → (a >>= λ v. then v ws) ≡ ((a >>= λ v. both v ws) >>= λ x. then x.0 x.1)
  value_both ws (refused n) = refl
  value_both ws (done v) = refl

  both_cons : (w : Text) (ws : List Text) (q : Bool) → starts key w ≡ q → field key value then (w ∷ ws) ≡ (field key value both (w ∷ ws) >>= λ x. then x.0 x.1)
  unfolding field
  both_cons w ws true e = rw e (value_both ws (value (drop (length key) w)))
  both_cons w ws false e = rw e

  -- a field is its value with the words after it first, and then what follows
  field_both : (ws : List Text) → field key value then ws ≡ (field key value both ws >>= λ x. then x.0 x.1)
  unfolding field
  field_both [] = refl
  field_both (w ∷ ws) = both_cons w ws (starts key w) refl

  onward : (x : Answer (List Text)) → (x >>= field key value then) ≡ ((x >>= field key value both) >>= λ x. then x.0 x.1)
  onward (refused n) = refl
  onward (done ws) = field_both ws

  -- a field whose text has its place
  module _ (line : Text) (c : Cursor) (p : Place) (h : place_says line p ≡ read_on line c (field key done both)) where
    pub misplaced : p.good ≡ false → refused malformed ≡ read_on line c (field key value then)
    misplaced g = sym (through (cursor_says line c) ∙ rw (← h, g))

    pub placed : p.good ≡ true → (a : Answer A) → value (between p.from p.to line) ≡ a → (a >>= λ v. then v (pieces_after 32 line p.to)) ≡ read_on line c (field key value then)
    placed g a e = sym (through (cursor_says line c) ∙ rw (← h, g, e))

  -- the next field is read where this one ends
  pub advance : (line : Text) (c next : Cursor) (v : A) → cond next.good (both v (pieces_after 32 line next.end)) (refused malformed) ≡ read_on line c (field key value both) → read_on line c (field key value then) ≡ read_on line next (then v)
  advance line c next v h = onward (cursor_says line c) ∙ rw (← h) (ways next.good)
    where
      ways : (q : Bool) → (cond q (both v (pieces_after 32 line next.end)) (refused malformed) >>= λ x. then x.0 x.1) ≡ (cond q (done (pieces_after 32 line next.end)) (refused malformed) >>= then v)
      ways true = refl
      ways false = refl

-- the text of the next word's value, or none
module _ (line key : Text) (c : Cursor) where
  pub unread : c.good ≡ false → refused malformed ≡ read_on line c (field key done both)
  unread g = rw g

  pub wordless : c.good ≡ true → length line ≤ c.end → refused malformed ≡ read_on line c (field key done both)
  unfolding field
  wordless g h = rw (g, after_last 32 line c.end h)

  module _ (to : ℕ) (g : c.good ≡ true) (h : c.end < length line) (p : to ≡ c.end + 1 + before 32 (drop (c.end + 1) line)) where
    next_word : pieces_after 32 line c.end ≡ between (c.end + 1) to line ∷ pieces_after 32 line to
    next_word = after_more 32 line c.end h ∙ pieces 32 line (c.end + 1) to (omega arith) p

    pub other_key : starts key (between (c.end + 1) to line) ≡ false → refused malformed ≡ read_on line c (field key done both)
    unfolding field
    other_key s = rw (g, next_word, s)

    pub its_value : starts key (between (c.end + 1) to line) ≡ true → c.end + 1 + length key ≤ to → to ≤ length line → both (between (c.end + 1 + length key) to line) (pieces_after 32 line to) ≡ read_on line c (field key done both)
    unfolding field
    its_value s m n = rw (g, next_word, s, between_drop (length key) line (c.end + 1) to m n)

-- pages in the form are the ranges of their text
pub listed : {A B : Type 0} (x : Answer (List A)) (then : List A → Answer B) → is_done x ≡ true → (x >>= then) ≡ then (list_of x)
listed (refused n) then h = absurd (let z : ◌≡◌ {A = ℕ} 0 1 = cc in omega arith)
listed (done l) then h = refl

-- pages at a place: in the form, or not
module _ (line key : Text) (c : Cursor) (p : Place) (h : place_says line p ≡ read_on line c (field key done both)) (g : p.good ≡ true) where
  pub pages_placed : is_done (pages_of (between p.from p.to line)) ≡ true → pages_says line p ≡ read_on line c (field key pages_of both)
  pages_placed e =
      ap (λ (q : Bool). cond q (both (ranges_in (between p.from p.to line)) (pieces_after 32 line p.to)) (refused malformed)) g
      ∙ sym (listed (pages_of (between p.from p.to line)) (λ v. both v (pieces_after 32 line p.to)) e)
      ∙ placed key pages_of both line c p h g (pages_of (between p.from p.to line)) refl

  pub pages_misplaced : is_done (pages_of (between p.from p.to line)) ≡ false → refused malformed ≡ read_on line c (field key pages_of both)
  pages_misplaced e = placed key pages_of both line c p h g (refused malformed) (pages_24 (between p.from p.to line) e)

-- the words are at their end, or not
module _ {B : Type 0} (line : Text) (b : B) where
  pub over : (c : Cursor) → is_over line c ≡ true → done b ≡ read_on line c (end b)
  unfolding end
  over c h = ways c.good (leb (length line) c.end) refl refl h
    where
      ways : (p q : Bool) → c.good ≡ p → leb (length line) c.end ≡ q → (p && q) ≡ true → done b ≡ read_on line c (end b)
      ways true true g e k = rw (g, after_last 32 line c.end (leb-true (length line) c.end e))
      ways true false g e k = absurd (let z : ◌≡◌ {A = ℕ} 0 1 = cc in omega arith)
      ways false q g e k = absurd (let z : ◌≡◌ {A = ℕ} 0 1 = cc in omega arith)

  pub not_over : (c : Cursor) → is_over line c ≡ false → refused malformed ≡ read_on line c (end b)
  unfolding end
  not_over c h = ways c.good (leb (length line) c.end) refl refl h
    where
      ways : (p q : Bool) → c.good ≡ p → leb (length line) c.end ≡ q → (p && q) ≡ false → refused malformed ≡ read_on line c (end b)
      ways true true g e k = absurd (let z : ◌≡◌ {A = ℕ} 0 1 = cc in omega arith)
      ways true false g e k = rw (g, after_more 32 line c.end (leb-false (length line) c.end e), split_first 32 (drop (c.end + 1) line))
      ways false q g e k = rw g

pub and_fst : (a b : Bool) → (a && b) ≡ true → a ≡ true
and_fst true b h = refl
and_fst false b h = h

-- a call is done where its fields leave no word, and 24 elsewhere
abbrev pub Closed : Text → Cursor → Call → Answer Call → Type 0
Closed line n b x = (is_over line n ≡ true → done b ≡ x) × (is_over line n ≡ false → refused malformed ≡ x)

closes : (line : Text) (b : Call) (n : Cursor) (x : Answer Call) → x ≡ read_on line n (end b) → Closed line n b x
closes line b n x e = ((λ h. over line b n h ∙ sym e), (λ h. not_over line b n h ∙ sym e))

-- a field with its key was read at c: its value is v, and the next word is after n
abbrev Read : {A : Type 0} → Text → Cursor → Text → (Text → Answer A) → Cursor → A → Type 0
Read line c key value n v = cond n.good (both v (pieces_after 32 line n.end)) (refused malformed) ≡ read_on line c (field key value both)

-- the fields of each call, one after another
module _ (line : Text) (op n₁ : Cursor) where
  pub pulled : (vid : ℕ) → Read line op vid= identifier_of n₁ vid → Closed line n₁ (Pull vid) (read_on line op pull_of)
  unfolding pull_of
  pulled vid h₁ = closes line (Pull vid) n₁ (read_on line op pull_of) (advance vid= identifier_of _ line op n₁ vid h₁)

  module _ (n₂ : Cursor) where
    pub snapped : (vid slot : ℕ) → Read line op vid= identifier_of n₁ vid → Read line n₁ slot= (decimal_of last_slot) n₂ slot → Closed line n₂ (Snap vid slot) (read_on line op snap_of)
    unfolding snap_of
    snapped vid slot h₁ h₂ = closes line (Snap vid slot) n₂ (read_on line op snap_of) (advance vid= identifier_of _ line op n₁ vid h₁ ∙ advance slot= (decimal_of last_slot) _ line n₁ n₂ slot h₂)

    pub found : (slot page : ℕ) → Read line op slot= (decimal_of last_slot) n₁ slot → Read line n₁ page= (decimal_of last32) n₂ page → Closed line n₂ (Find slot page) (read_on line op find_of)
    unfolding find_of
    found slot page h₁ h₂ = closes line (Find slot page) n₂ (read_on line op find_of) (advance slot= (decimal_of last_slot) _ line op n₁ slot h₁ ∙ advance page= (decimal_of last32) _ line n₁ n₂ page h₂)

    module _ (n₃ : Cursor) where
      pub opened : (vid near far : ℕ) → Read line op vid= identifier_of n₁ vid → Read line n₁ local= identifier_of n₂ near → Read line n₂ remote= identifier_of n₃ far → Closed line n₃ (Open vid near far) (read_on line op open_of)
      unfolding open_of
      opened vid near far h₁ h₂ h₃ = closes line (Open vid near far) n₃ (read_on line op open_of) (advance vid= identifier_of _ line op n₁ vid h₁ ∙ advance local= identifier_of _ line n₁ n₂ near h₂ ∙ advance remote= identifier_of _ line n₂ n₃ far h₃)

      module _ (n₄ n₅ : Cursor) (count sid : ℕ) (pages : List Range) (h₃ : Read line n₂ count= (decimal_of last32) n₃ count) (h₄ : Read line n₃ sid= identifier_of n₄ sid) (h₅ : Read line n₄ pages= pages_of n₅ pages) where
        written : (b : ℕ → ℕ → List Range → Call) → read_on line n₂ (field count= (decimal_of last32) λ count. field sid= identifier_of λ sid. field pages= pages_of λ pages. end (b count sid pages)) ≡ read_on line n₅ (end (b count sid pages))
        written b = advance count= (decimal_of last32) _ line n₂ n₃ count h₃ ∙ advance sid= identifier_of _ line n₃ n₄ sid h₄ ∙ advance pages= pages_of _ line n₄ n₅ pages h₅

        pub saved : (vid slot : ℕ) → Read line op vid= identifier_of n₁ vid → Read line n₁ slot= (decimal_of last_slot) n₂ slot → Closed line n₅ (Save vid slot count sid pages) (read_on line op save_of)
        unfolding save_of
        saved vid slot h₁ h₂ = closes line (Save vid slot count sid pages) n₅ (read_on line op save_of) (advance vid= identifier_of _ line op n₁ vid h₁ ∙ advance slot= (decimal_of last_slot) _ line n₁ n₂ slot h₂ ∙ written (Save vid slot))

        pub fetched : (log lsn : ℕ) → Read line op log= identifier_of n₁ log → Read line n₁ lsn= (decimal_of last64) n₂ lsn → Closed line n₅ (Fetch log lsn count sid pages) (read_on line op fetch_of)
        unfolding fetch_of
        fetched log lsn h₁ h₂ = closes line (Fetch log lsn count sid pages) n₅ (read_on line op fetch_of) (advance log= identifier_of _ line op n₁ log h₁ ∙ advance lsn= (decimal_of last64) _ line n₁ n₂ lsn h₂ ∙ written (Fetch log lsn))

-- a line of at most 256 bytes by its first word and those after it
pub first_word : (line : Text) (e : ℕ) → length line ≤ 256 → e ≡ 0 + before 32 (drop 0 line) → meaning line ≡ call_of (between 0 e line ∷ pieces_after 32 line e)
unfolding meaning
first_word line e h p = rw (le-leb (length line) 256 h, pieces 32 line 0 e (omega arith) p)

pub too_long : (line : Text) → 256 < length line → refused malformed ≡ meaning line
unfolding meaning
too_long line h = rw (lt-leb (length line) 256 h)

-- the first word names the call
module _ (w : Text) (ws : List Text) where
  pub call_open : is_text op=open w ≡ true → call_of (w ∷ ws) ≡ open_of ws
  unfolding call_of
  call_open e = rw e

  module _ (a : is_text op=open w ≡ false) where
    pub call_snap : is_text op=snap w ≡ true → call_of (w ∷ ws) ≡ snap_of ws
    unfolding call_of
    call_snap e = rw (a, e)

    module _ (b : is_text op=snap w ≡ false) where
      pub call_save : is_text op=save w ≡ true → call_of (w ∷ ws) ≡ save_of ws
      unfolding call_of
      call_save e = rw (a, b, e)

      module _ (c : is_text op=save w ≡ false) where
        pub call_find : is_text op=find w ≡ true → call_of (w ∷ ws) ≡ find_of ws
        unfolding call_of
        call_find e = rw (a, b, c, e)

        module _ (d : is_text op=find w ≡ false) where
          pub call_fetch : is_text op=fetch w ≡ true → call_of (w ∷ ws) ≡ fetch_of ws
          unfolding call_of
          call_fetch e = rw (a, b, c, d, e)

          module _ (f : is_text op=fetch w ≡ false) where
            pub call_pull : is_text op=pull w ≡ true → call_of (w ∷ ws) ≡ pull_of ws
            unfolding call_of
            call_pull e = rw (a, b, c, d, f, e)

            pub call_none : is_text op=pull w ≡ false → call_of (w ∷ ws) ≡ refused malformed
            unfolding call_of
            call_none e = rw (a, b, c, d, f, e)
