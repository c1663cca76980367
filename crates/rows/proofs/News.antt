-- How many of a batch's keys are new: as many in bytes as in the rules, since a key's bytes stand to a record's as the keys do. So room in bytes for the new ones is the
-- rules' room for the whole batch.
use Rattle.std.proofs.Common.{◌≡◌, ℕ, ◌+◌, ◌<◌, ◌≤◌, Bool, true, cond, ◌||◌, leb, List, [], ◌∷◌, ◌++◌, map, length, sym, refl, ap, ◌∙◌, ap₂}
use Prim.Native.Nat.{Ordering}
use lib.Dec.{compare_is_eq}
use Rattle.octets.specs.Order.{ordering}
use Rattle.std.proofs.Common.{Ordering as Order, Less, Equal, Greater}
use Rattle.rules.specs.Lists.{any, all}
use Rattle.rules.specs.Tables.{capacity, fits, store_all}
use Rattle.rules.specs.Room.{held, lacks, news, has_room}
use Rattle.rules.proofs.TableLaws.{and_fst, and_snd, and_both, all_append, map-append}
use Rattle.rules.proofs.Rooms.{fits_store_all}
use Rattle.table.specs.Records.{cmp, look_by, look}
use Rattle.table.specs.Table.{count_of, cap_of, recs, laid, holds}
use Rattle.table.specs.Table as B
use Rattle.table.proofs.Checks.{well_two, well_count}
use Rattle.batch.specs.Batch as Many
use Rattle.batch.proofs.Puts.{room_news}
use Rattle.layout.specs.Codecs.{Codec}
use Rattle.layout.specs.Tables.{formed_in, table_in, laid_over}
use Rattle.rows.proofs.Rows.{Layout, holds_is, length_rows, formed_well, formed_up, formed_forms, rows_are}
use Rattle.rows.proofs.Finds.{Names, names_own}
use Rattle.rows.proofs.Stores.{put_all_fits, put_all_laid}

module _ {R K : Type 0} {c : Codec R} {s k : ℕ} {form : R → Bool} {key : R → K} {order : K → K → Ordering} (L : Layout c s k form key order) where
  lacks_step : (kb : List ℕ) (x : K) (r : R) (l : List R) (m : List (List ℕ)) (o : Order) → Many.lacks k kb m ≡ lacks key order x l
      → Many.gone (look_by o (c.spell r) (look k kb m)) ≡ cond (compare_is_eq (ordering o) || held key order x l) 0 1
  unfolding Many.lacks
  lacks_step kb x r l m Less e = e
  lacks_step kb x r l m Equal e = refl
  lacks_step kb x r l m Greater e = e

  lacks_rows : (kb : List ℕ) (x : K) → Names L kb x → (l : List R) → all form l ≡ true → Many.lacks k kb (map c.spell l) ≡ lacks key order x l
  unfolding Many.lacks held any all
  lacks_rows kb x n [] e = refl
  lacks_rows kb x n (r ∷ l) e =
      lacks_step kb x r l (map c.spell l) (cmp k kb (c.spell r)) (lacks_rows kb x n l (and_snd (form r) (all form l) e))
      ∙ ap (λ (o : Ordering). cond (compare_is_eq o || held key order x l) 0 1) (n r (and_fst (form r) (all form l) e))

  -- a key is new in a table's bytes just where the rules' table does not hold it
  pub lacks_is : (t : List ℕ) → formed_in c k form t ≡ true → (kb : List ℕ) (x : K) → Names L kb x → Many.lacks k kb (recs s t) ≡ lacks key order x (table_in c t).rows
  lacks_is t good kb x n = ap (Many.lacks k kb) (rows_are L t good) ∙ lacks_rows kb x n (table_in c t).rows (formed_forms L t good)

  news_rows : (rs l : List R) → all form rs ≡ true → all form l ≡ true → Many.news k (map c.spell rs) (map c.spell l) ≡ news key order rs l
  unfolding news all
  news_rows [] l f e = refl
  news_rows (r ∷ rs) l f e =
      let fr = and_fst (form r) (all form rs) f in
      let fs = and_snd (form r) (all form rs) f in
      ap₂ ◌+◌
      (ap (Many.lacks k (c.spell r)) (sym (map-append c.spell rs l)) ∙ lacks_rows (c.spell r) (key r) (names_own L r fr) (rs ++ l) (all_append form rs l ∙ and_both fs e))
      (news_rows rs l fs e)

  -- of a batch as many keys are new in the bytes as in the rules' table
  pub news_spelled : (t : List ℕ) → formed_in c k form t ≡ true → (rs : List R) → all form rs ≡ true → Many.news k (map c.spell rs) (recs s t) ≡ news key order rs (table_in c t).rows
  news_spelled t good rs f = ap (Many.news k (map c.spell rs)) (rows_are L t good) ∙ news_rows rs (table_in c t).rows f (formed_forms L t good)

  -- so room for the new ones is room for all
  pub news_fit : (t : List ℕ) → formed_in c k form t ≡ true → (rs : List R) (r : Bool) (n : ℕ) → n ≡ news key order rs (table_in c t).rows → r ≡ holds s (count_of t + n) t → r ≡ fits (store_all key order rs (table_in c t))
  unfolding has_room
  news_fit t good rs r n en er =
      er ∙ holds_is L (count_of t + n) t
      ∙ ap₂ (λ (a b : ℕ). leb (a + b) (capacity (table_in c t))) (sym (length_rows L t)) en
      ∙ sym (fits_store_all key order L.lawful rs (table_in c t) (formed_up L t good))

  -- ---- rows of records in form, put into a table or counted

  module _ (t : List ℕ) (good : formed_in c k form t ≡ true) where
    -- a table in form has its count, and can be asked for room
    pub ready : (0 < s) × (2 ≤ length t) × (count_of t ≤ cap_of s t)
    ready = (L.sized, well_two s k t (formed_well L t good), well_count s k t (formed_well L t good))

    module _ (xs : List R) (f : all form xs ≡ true) (rows : List (List ℕ)) (er : rows ≡ map c.spell xs) where
      pub rows_fit : B.fits s (Many.put_all k rows (recs s t)) t ≡ fits (store_all key order xs (table_in c t))
      rows_fit = ap (λ (rs : List (List ℕ)). B.fits s (Many.put_all k rs (recs s t)) t) er ∙ put_all_fits L t good xs f

      pub rows_room : (r : Bool) (n : ℕ) → n ≡ Many.news k rows (recs s t) → r ≡ holds s (count_of t + n) t → r ≡ fits (store_all key order xs (table_in c t))
      rows_room r n en e = e ∙ ap (λ (m : ℕ). holds s (count_of t + m) t) en ∙ room_news s k rows t (formed_well L t good) ∙ rows_fit

      pub rows_laid : laid (Many.put_all k rows (recs s t)) t ≡ laid_over c (store_all key order xs (table_in c t)) t
      rows_laid = ap (λ (rs : List (List ℕ)). laid (Many.put_all k rs (recs s t)) t) er ∙ put_all_laid L t good xs f
