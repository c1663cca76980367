-- Records put a run at a time. On the way from bytes t to the table w the bytes u are formed, the records still to come make u's table w, and w laid over u is w
-- laid over t: puts leave no more records than w has, so w covers whatever they changed. The records to come are fewer after each put.
use Rattle.std.proofs.Common.{◌≡◌, ℕ, ◌≤◌, min, Bool, true, ◌&&◌, List, [], ◌++◌, length, sym, refl, ap, ◌∙◌, arith, le-leb, leb-true}
use Prim.Native.Nat.{Ordering}
use Rattle.octets.specs.Bytes.{AreBytes}
use Rattle.rules.specs.Lists.{all}
use Rattle.rules.specs.Tables.{Table, fits, put_all, formed, store_all}
use Rattle.rules.proofs.TableLaws as Rules
use Rattle.rules.proofs.Rooms.{length_put_all}
use Rattle.rules.proofs.RoomOfCalls.{put_all_append}
use Rattle.layout.specs.Codecs.{Codec}
use Rattle.layout.specs.Tables.{formed_in, table_in, laid_over}
use Rattle.rows.proofs.Rows.{Layout, formed_two, formed_up, formed_rules, laid_same, laid_after}
use Rattle.rows.proofs.Stores.{store_all_holds}

module _ {R K : Type 0} {c : Codec R} {s k : ℕ} {form : R → Bool} {key : R → K} {order : K → K → Ordering} (L : Layout c s k form key order) where
  -- u is on the way from t to w, with the records xs to come
  pub record Storing (xs : List R) (t : List ℕ) (w : Table R) (u : List ℕ) : Type 0 where
    pub forms : all form xs ≡ true
    pub good : formed_in c k form u ≡ true
    pub coming : store_all key order xs (table_in c u) ≡ w
    pub room : fits w ≡ true
    pub covers : laid_over c w u ≡ laid_over c w t

  -- at the start, where there is room for all
  pub storing_start : (xs : List R) (t : List ℕ) → all form xs ≡ true → formed_in c k form t ≡ true → fits (store_all key order xs (table_in c t)) ≡ true
      → Storing xs t (store_all key order xs (table_in c t)) t
  storing_start xs t f e h = record { forms = f; good = e; coming = refl; room = h; covers = refl }

  -- a run xs of the records to come, and ys behind it
  module _ (xs ys : List R) (t : List ℕ) (w : Table R) (u : List ℕ) (h : Storing (xs ++ ys) t w u) where
    both : all form xs && all form ys ≡ true
    both = sym (Rules.all_append form xs ys) ∙ h.forms

    now_form : all form xs ≡ true
    now_form = Rules.and_fst (all form xs) (all form ys) both

    then_form : all form ys ≡ true
    then_form = Rules.and_snd (all form xs) (all form ys) both

    then_coming : store_all key order ys (store_all key order xs (table_in c u)) ≡ w
    then_coming = (λ i. record { room = (table_in c u).room; rows = sym (put_all_append key order xs ys (table_in c u).rows) i }) ∙ h.coming

    -- the table after the run has no more records than w
    fewer : length (put_all key order xs (table_in c u).rows) ≤ length w.rows
    fewer =
        omega (arith, ap (λ (v : Table R). length v.rows) then_coming, length_put_all key order L.lawful ys (put_all key order xs (table_in c u).rows) (Rules.in_order_put_all key order L.lawful xs (table_in c u).rows (formed_up L u h.good)))

    same_room : w.room ≡ (table_in c u).room
    same_room = sym (ap (λ (v : Table R). v.room) then_coming)

    -- there is room for the run
    pub many_fits : fits (store_all key order xs (table_in c u)) ≡ true
    unfolding fits
    many_fits =
        le-leb (length (put_all key order xs (table_in c u).rows)) (min (table_in c u).room 65535)
        (omega (arith, fewer, leb-true (length w.rows) (min w.room 65535) h.room, ap (λ (m : ℕ). min m 65535) same_room))

    formed_then : formed key order form (store_all key order xs (table_in c u)) ≡ true
    formed_then = Rules.formed_store_all key order L.lawful form xs (table_in c u) now_form (formed_rules L u h.good) many_fits

    formed_end : formed key order form w ≡ true
    formed_end =
        ap (formed key order form) (sym then_coming)
        ∙ Rules.formed_store_all key order L.lawful form ys (store_all key order xs (table_in c u)) then_form formed_then (ap fits then_coming ∙ h.room)

    -- and after it the others are to come
    pub storing_many : (v : List ℕ) → v ≡ laid_over c (store_all key order xs (table_in c u)) u → Storing ys t w v
    storing_many v d =
        let q = store_all_holds L u h.good xs now_form many_fits in
        let two = formed_two L u h.good in
        record {
          forms = then_form;
          good = ap (formed_in c k form) d ∙ q.again;
          coming = ap (store_all key order ys) (ap (table_in c) d ∙ q.table) ∙ then_coming;
          room = h.room;
          covers = ap (laid_over c w) d ∙ laid_after L (store_all key order xs (table_in c u)) w u formed_then formed_end same_room two fewer ∙ h.covers;
        }

    -- the table that the bytes hold then
    pub many_table : (v : List ℕ) → v ≡ laid_over c (store_all key order xs (table_in c u)) u → table_in c v ≡ store_all key order xs (table_in c u)
    many_table v d = ap (table_in c) d ∙ (store_all_holds L u h.good xs now_form many_fits).table

  -- at the end the bytes are w laid over t
  pub storing_end : (t : List ℕ) (w : Table R) (u : List ℕ) → Storing [] t w u → AreBytes u → u ≡ laid_over c w t
  unfolding put_all
  storing_end t w u h b = sym (laid_same L u b h.good) ∙ ap (λ (v : Table R). laid_over c v u) h.coming ∙ h.covers
