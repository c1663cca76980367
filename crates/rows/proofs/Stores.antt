-- What a store leaves and whether there is room for it, in the rules' words. A put goes by how the record and each row stand, which is how their keys do, so
-- the rows after it are the bytes of the records after it; their number is the rules', and so is what fits.
use Rattle.std.proofs.Common.{◌≡◌, ℕ, ◌+◌, Bool, true, List, [], ◌∷◌, map, set, sym, refl, ap, ◌∙◌, ap₂, Ok, Err}
use Prim.Native.Nat.{Ordering}
use Rattle.octets.specs.Order.{ordering}
use Rattle.std.proofs.Common.{Ordering as Order, Less, Equal, Greater}
use Rattle.basics.proofs.OrderLaws.{ordering_same}
use Rattle.rules.specs.Lists.{all}
use Rattle.rules.specs.Tables.{fits, placed, put, put_all, store, store_all}
use Rattle.rules.proofs.TableLaws as Rules
use Rattle.table.specs.Records.{cmp, spot_by, spot, put_by}
use Rattle.table.specs.Records as T
use Rattle.table.specs.Table.{count_of, recs, laid, holds}
use Rattle.table.specs.Table as B
use Rattle.table.proofs.Spots.{put_at}
use Rattle.table.proofs.Ends.{room_at, room_gap}
use Rattle.batch.specs.Batch as Many
use Rattle.layout.specs.Codecs.{Codec}
use Rattle.layout.specs.Tables.{formed_in, table_in, laid_over}
use Rattle.rows.proofs.Rows.{Layout, formed_two, Laid, formed_well, formed_forms, formed_rules, rows_are, fits_is, laid_holds}
use Rattle.rows.proofs.Finds.{Names, names_own}

module _ {R K : Type 0} {c : Codec R} {s k : ℕ} {form : R → Bool} {key : R → K} {order : K → K → Ordering} (L : Layout c s k form key order) where
  -- ---- puts

  put_step : (o : Order) (r x : R) (l m : List R) (rs : List (List ℕ)) → rs ≡ map c.spell m
      → put_by o (c.spell r) (c.spell x) (map c.spell l) rs ≡ map c.spell (placed (ordering o) r x l m)
  put_step Less r x l m rs e = refl
  put_step Equal r x l m rs e = refl
  put_step Greater r x l m rs e = ap (λ (y : List (List ℕ)). c.spell x ∷ y) e

  -- a put of bytes is the bytes of a put
  put_spelled : (r : R) → form r ≡ true → (l : List R) → all form l ≡ true → T.put k (c.spell r) (map c.spell l) ≡ map c.spell (put key order r l)
  unfolding put all
  put_spelled r f [] e = refl
  put_spelled r f (x ∷ l) e =
      put_step (cmp k (c.spell r) (c.spell x)) r x l (put key order r l) (T.put k (c.spell r) (map c.spell l)) (put_spelled r f l (Rules.and_snd (form x) (all form l) e))
      ∙ ap (λ (o : Ordering). map c.spell (placed o r x l (put key order r l))) (L.ordered r x f (Rules.and_fst (form x) (all form l) e))

  -- of many likewise
  put_all_spelled : (rs : List R) → all form rs ≡ true → (l : List R) → Rules.Rows key order L.lawful form l → Many.put_all k (map c.spell rs) (map c.spell l) ≡ map c.spell (put_all key order rs l)
  unfolding put_all all
  put_all_spelled [] f l h = refl
  put_all_spelled (r ∷ rs) f l h =
      let fr = Rules.and_fst (form r) (all form rs) f in
      ap (Many.put_all k (map c.spell rs)) (put_spelled r fr l h.forms)
      ∙ put_all_spelled rs (Rules.and_snd (form r) (all form rs) f) (put key order r l) (Rules.rows_put_lem key order L.lawful form r l fr h)

  -- the spot of a key does not depend on the bytes that name it
  names_spot : (a b : List ℕ) (x : K) → Names L a x → Names L b x → (l : List R) → all form l ≡ true → spot k a (map c.spell l) ≡ spot k b (map c.spell l)
  unfolding all
  names_spot a b x na nb [] e = refl
  names_spot a b x na nb (r ∷ l) e =
      let f = Rules.and_fst (form r) (all form l) e in
      ap₂ spot_by (ordering_same (cmp k a (c.spell r)) (cmp k b (c.spell r)) (na r f ∙ sym (nb r f))) (names_spot a b x na nb l (Rules.and_snd (form r) (all form l) e))

  module _ (t : List ℕ) (e : formed_in c k form t ≡ true) where
    -- ---- one record stored

    module _ (r : R) (f : form r ≡ true) where
      put_rows : T.put k (c.spell r) (recs s t) ≡ map c.spell (put key order r (table_in c t).rows)
      put_rows = ap (T.put k (c.spell r)) (rows_are L t e) ∙ put_spelled r f (table_in c t).rows (formed_forms L t e)

      -- the bytes after a put
      pub put_laid : laid (T.put k (c.spell r) (recs s t)) t ≡ laid_over c (store key order r (table_in c t)) t
      unfolding laid_over
      put_laid = ap (λ (rs : List (List ℕ)). laid rs t) put_rows

      -- there is room for it
      pub put_fits : B.fits s (T.put k (c.spell r) (recs s t)) t ≡ fits (store key order r (table_in c t))
      put_fits = ap (λ (rs : List (List ℕ)). B.fits s rs t) put_rows ∙ fits_is L (put key order r (table_in c t).rows) t

      -- and bytes that hold the table after it
      pub store_holds : fits (store key order r (table_in c t)) ≡ true → Laid L (store key order r (table_in c t)) t (laid_over c (store key order r (table_in c t)) t)
      store_holds h =
          laid_holds L (store key order r (table_in c t)) t (Rules.formed_store key order L.lawful form r (table_in c t) f (formed_rules L t e) h) refl (formed_two L t e)

      -- where the key was looked up by bytes that name it
      module _ (kb : List ℕ) (n : Names L kb (key r)) (i : ℕ) where
        own_spot : spot k (c.spell r) (recs s t) ≡ spot k kb (recs s t)
        own_spot =
            ap (spot k (c.spell r)) (rows_are L t e)
            ∙ names_spot (c.spell r) kb (key r) (names_own L r f) n (table_in c t).rows (formed_forms L t e)
            ∙ ap (spot k kb) (sym (rows_are L t e))

        -- the record there gives way to it, which needs no room
        pub over_laid : spot k kb (recs s t) ≡ Ok i → laid (set (recs s t) i (c.spell r)) t ≡ laid_over c (store key order r (table_in c t)) t
        over_laid p = ap (λ (rs : List (List ℕ)). laid rs t) (sym (put_at k (c.spell r) (recs s t) i (own_spot ∙ p))) ∙ put_laid

        pub over_fits : spot k kb (recs s t) ≡ Ok i → fits (store key order r (table_in c t)) ≡ true
        over_fits p = sym put_fits ∙ sym (room_at s k t (c.spell r) i (spot k (c.spell r) (recs s t)) refl (own_spot ∙ p) (formed_well L t e))

        -- or it goes in before that one, which needs room for one more
        pub insert_fits : spot k kb (recs s t) ≡ Err i → holds s (count_of t + 1) t ≡ fits (store key order r (table_in c t))
        insert_fits p = room_gap s k t (c.spell r) i (spot k (c.spell r) (recs s t)) refl (own_spot ∙ p) (holds s (count_of t + 1) t) refl ∙ put_fits

    -- ---- many records stored

    module _ (rs : List R) (f : all form rs ≡ true) where
      put_all_rows : Many.put_all k (map c.spell rs) (recs s t) ≡ map c.spell (put_all key order rs (table_in c t).rows)
      put_all_rows =
          ap (Many.put_all k (map c.spell rs)) (rows_are L t e)
          ∙ put_all_spelled rs f (table_in c t).rows (Rules.formed_rows key order L.lawful form (table_in c t) (formed_rules L t e))

      pub put_all_laid : laid (Many.put_all k (map c.spell rs) (recs s t)) t ≡ laid_over c (store_all key order rs (table_in c t)) t
      unfolding laid_over
      put_all_laid = ap (λ (bs : List (List ℕ)). laid bs t) put_all_rows

      pub put_all_fits : B.fits s (Many.put_all k (map c.spell rs) (recs s t)) t ≡ fits (store_all key order rs (table_in c t))
      put_all_fits = ap (λ (bs : List (List ℕ)). B.fits s bs t) put_all_rows ∙ fits_is L (put_all key order rs (table_in c t).rows) t

      -- and bytes that hold the table after them
      pub store_all_holds : fits (store_all key order rs (table_in c t)) ≡ true → Laid L (store_all key order rs (table_in c t)) t (laid_over c (store_all key order rs (table_in c t)) t)
      store_all_holds h =
          laid_holds L (store_all key order rs (table_in c t)) t (Rules.formed_store_all key order L.lawful form rs (table_in c t) f (formed_rules L t e) h) refl (formed_two L t e)
