-- The presence table in bytes: a record is its key, so the bytes that name a page are its record, and the pages from a to b are the run from b's key to a's.
use Rattle.std.proofs.Common.{◌≡◌, ℕ, ◌+◌, ◌*◌, ◌^◌, ◌<◌, ◌≤◌, Bool, true, false, cond, List, ◌++◌, length, take, drop, sym, refl, ap, ◌∙◌, subst, arith, Ok, Err}
use mathlib.Core.Option.{Option, none, some}
use Rattle.octets.specs.Bytes.{part, AreBytes}
use Rattle.octets.specs.Order.{lex, is_equal}
use Rattle.octets.proofs.Places as P
use Rattle.basics.specs.Numbers.{last_page}
use Rattle.basics.specs.Orders.{sid_page}
use Rattle.rules.specs.Lists.{any, is_some}
use Rattle.rules.specs.Records.{Id, Present, present_key}
use Rattle.rules.specs.Forms.{present_form}
use Rattle.rules.specs.Tables.{Table, get_present, store, remove, fits, same_id}
use Rattle.rules.specs.Reads.{present_in}
use Rattle.rules.proofs.Facts.{id_is}
use Rattle.table.specs.Records.{spot, place}
use Rattle.table.specs.Records as T
use Rattle.table.specs.Table.{recs, count_of, laid}
use Rattle.table.specs.Table as B
use Rattle.table.specs.Run.{RunOf}
use Rattle.table.proofs.Rows.{key_at}
use Rattle.layout.specs.Records.{sid_page_bytes, present_bytes}
use Rattle.layout.specs.Tables.{presence_in, presence_ok, laid_over}
use Rattle.rows.specs.Lookups.{nth, only_if, within}
use Rattle.rows.proofs.Rows.{laid_same}
use Rattle.rows.proofs.Finds.{Names, get_at, get_gap, row_nth, row_end}
use Rattle.rows.proofs.Stores.{put_laid, put_fits}
use Rattle.rows.proofs.Removals.{run_empty, run_laid}
use Rattle.rows.proofs.Tables.{presence, present_key_lem}
use Rattle.rows.proofs.Seeks.{present_at, pages_are}
use Rattle.presence.specs.Pages.{page_of, of_segment}

-- the record of a page is its key
pub record_is : (sid : Id) (page : ℕ) → sid_page_bytes.spell (sid, page) ≡ present_bytes.spell (page_of sid page)
unfolding present_bytes
record_is sid page = refl

-- the code's keys name their pages
pub names : (kb : List ℕ) (sid : Id) (page : ℕ) → length sid ≡ 16 → page < 256 ^ 4 → kb ≡ sid_page_bytes.spell (sid, page) → Names presence kb (sid, page)
names kb sid page l h e = subst (λ x. Names presence x (sid, page)) (sym e) (present_key_lem (sid, page) (l, h))

-- the segment of a record stands behind its reserved byte
sid_of : (t : List ℕ) (at : ℕ) → (present_bytes.read (part at 21 t)).sid ≡ part (at + 1) 16 t
unfolding present_bytes sid_page_bytes
sid_of t at = key_at 20 16 1 (part at 21 t) (omega arith) ∙ P.part_part at 21 1 16 t (omega arith)

module _ (t : List ℕ) (e : presence_ok t ≡ true) where
  -- ---- lookups

  module _ (kb : List ℕ) (sid : Id) (page : ℕ) (n : Names presence kb (sid, page)) (i : ℕ) where
    pub there : spot 21 kb (recs 21 t) ≡ Ok i → true ≡ is_some (get_present (presence_in t) sid page)
    there p = sym (ap is_some (get_at presence kb (sid, page) n t e i p))

    pub missing : spot 21 kb (recs 21 t) ≡ Err i → false ≡ is_some (get_present (presence_in t) sid page)
    missing p = sym (ap is_some (get_gap presence kb (sid, page) n t e i p))

  -- the segment's highest page would stand at the place of the last page
  module _ (kb : List ℕ) (sid : Id) (l : length sid ≡ 16) (ek : kb ≡ sid_page_bytes.spell (sid, 4294967295)) (i : ℕ) (ei : i ≡ place (spot 21 kb (recs 21 t))) where
    found : any (of_segment sid) (presence_in t).rows ≡ is_some (only_if (of_segment sid) (nth i (presence_in t).rows))
    unfolding last_page
    found = present_at t e sid kb (names kb sid 4294967295 l (omega arith) ek) i ei

    pub none_there : count_of t ≤ i → false ≡ any (of_segment sid) (presence_in t).rows
    none_there h = sym (found ∙ ap (λ o. is_some (only_if (of_segment sid) o)) (row_end presence t i h))

    pub same_there_lem : i < count_of t → (b : Bool) (id : List ℕ) → id ≡ part (2 + i * 21 + 1) 16 t → b ≡ is_equal (lex sid id) → b ≡ any (of_segment sid) (presence_in t).rows
    same_there_lem h b id f g =
        g ∙ id_is sid id ∙ ap (same_id sid) (f ∙ sym (sid_of t (2 + i * 21)))
        ∙ only (same_id sid (present_bytes.read (part (2 + i * 21) 21 t)).sid) (present_bytes.read (part (2 + i * 21) 21 t))
        ∙ sym (found ∙ ap (λ o. is_some (only_if (of_segment sid) o)) (row_nth presence t i h))
      where
        only : (c : Bool) (x : Present) → c ≡ is_some (cond c (some x) none)
        only true x = refl
        only false x = refl

  -- ---- marks

  module _ (kb : List ℕ) (sid : Id) (page : ℕ) (f : present_form (page_of sid page) ≡ true) (ek : kb ≡ sid_page_bytes.spell (sid, page)) where
    key_record : kb ≡ present_bytes.spell (page_of sid page)
    key_record = ek ∙ record_is sid page

    pub page_fits : B.fits 21 (T.put 21 kb (recs 21 t)) t ≡ fits (store present_key sid_page (page_of sid page) (presence_in t))
    page_fits = ap (λ k. B.fits 21 (T.put 21 k (recs 21 t)) t) key_record ∙ put_fits presence t e (page_of sid page) f

    pub page_laid : laid (T.put 21 kb (recs 21 t)) t ≡ laid_over present_bytes (store present_key sid_page (page_of sid page) (presence_in t)) t
    page_laid = ap (λ k. laid (T.put 21 k (recs 21 t)) t) key_record ∙ put_laid presence t e (page_of sid page) f

  -- ---- removals

  module _ (ka kb : List ℕ) (sid : Id) (a b : ℕ) (na : Names presence ka (sid, b)) (nb : Names presence kb (sid, a)) (i j : ℕ) (h : RunOf 21 21 ka kb t i j) where
    pub none_goes : AreBytes t → j ≤ i → t ≡ laid_over present_bytes (remove (present_in sid a b) (presence_in t)) t
    none_goes by l =
        sym (laid_same presence t by e)
        ∙ ap (λ (w : Table Present). laid_over present_bytes w t) (sym (run_empty presence t e ka kb (sid, b) (sid, a) na nb i j h l))
        ∙ ap (λ (f : Present → Bool). laid_over present_bytes (remove f (presence_in t)) t) (pages_are sid a b)

    pub run_goes : i ≤ j → laid (take i (recs 21 t) ++ drop j (recs 21 t)) t ≡ laid_over present_bytes (remove (present_in sid a b) (presence_in t)) t
    run_goes l =
        run_laid presence t e ka kb (sid, b) (sid, a) na nb i j h l
        ∙ ap (λ (f : Present → Bool). laid_over present_bytes (remove f (presence_in t)) t) (pages_are sid a b)
