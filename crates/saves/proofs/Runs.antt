-- Where the pages of a save go. No present page is of the segment, so every record stands below all of its pages or above all of them: in the order of keys the new
-- records are one run, at the place of the segment's last page, and since pages go down in that order the last page comes first. So the records after are those
-- before the place, the pages from the last down, and those behind; their number is those held plus the number of pages.
use Rattle.std.proofs.Common.{◌≡◌, ℕ, ◌+◌, ◌*◌, ◌^◌, ◌<◌, ◌≤◌, Bool, true, false, List, [], ◌∷◌, ◌++◌, map, reverse, length, take, drop, sym, refl, ap, ◌∙◌, ap₂, append_assoc, arith, length-append, take-append-drop, Result, Ok, Err}
use Prim.Native.Nat.{Ordering}
use mathlib.Core.List.{reverse-cons}
use lib.Dec.{compare_is_eq}
use lib.ListN.{length-map, length-reverse}
use Rattle.octets.specs.Order.{ordering}
use Rattle.std.proofs.Common.{Ordering as Order, Less, Equal, Greater}
use Rattle.basics.specs.Orders.{next, bytes, is_lt, down, sid_page}
use Rattle.basics.proofs.OrderLaws.{up_lt, bytes_lawful, sid_page_lawful}
use Rattle.rules.specs.Lists.{all, any}
use Rattle.rules.specs.Records.{Id, Pages, Present, present_key}
use Rattle.rules.specs.Forms.{present_form}
use Rattle.rules.specs.Pages.{pages_in, size}
use Rattle.rules.specs.Tables.{put, put_all, fits}
use Rattle.rules.specs.Save.{now_present}
use Rattle.rules.proofs.TableLaws.{and_fst, and_snd, and_both, or_none, clash, all_weaken, map-append, lt_of}
use Rattle.rules.proofs.Loops.{put_behind, put_before}
use Rattle.table.specs.Records.{cmp, spot_by, spot, place}
use Rattle.table.specs.Table.{count_of, recs, laid, holds}
use Rattle.table.proofs.Rows.{fits_cap, cap_small, cap_room}
use Rattle.pageset.specs.declared.PageSet.{PageSet}
use Rattle.pageset.specs.Sets.{shown, normal}
use Rattle.layout.specs.Records.{sid_page_bytes, present_bytes}
use Rattle.layout.specs.Tables.{presence_in, presence_ok, laid_over}
use Rattle.pagesdown.proofs.Climbs.{Climbs, pages_climb}
use Rattle.rows.proofs.Rows.{formed_two, formed_forms, rows_are, length_rows, fits_is}
use Rattle.rows.proofs.Finds.{Names, map_take, map_drop}
use Rattle.rows.proofs.Tables.{presence}
use Rattle.presence.specs.Pages.{page_of, of_segment}
use Rattle.presence.proofs.PresentLaws.{names}
use Rattle.saves.specs.Added.{page_rows}

module _ (sid : Id) where
  -- ---- the pages put between records that stand below them all and one that stands above

  -- a record of a lower segment
  abbrev under : Present → Bool
  under x = is_lt (bytes x.sid sid)

  -- the first of the records, if there is one, stands above the pages from lo on
  abbrev Above : ℕ → List Present → Type 0
  Above lo [] = Unit {0}
  Above lo (x ∷ xs) = (q : ℕ) → lo ≤ q → sid_page (sid, q) (present_key x) ≡ Ordering.lt

  lower : (p : ℕ) (x : Present) → under x ≡ true → is_lt (sid_page (present_key x) (sid, p)) ≡ true
  lower p x h = ap (λ (o : Ordering). is_lt (next o (down x.page p))) (lt_of (bytes x.sid sid) h)

  -- a higher page goes in front of a lower one
  pages_fall : (p q : ℕ) → p < q → sid_page (sid, q) (sid, p) ≡ Ordering.lt
  pages_fall p q l = ap (λ (o : Ordering). next o (down q p)) (bytes_lawful.self sid) ∙ up_lt p q l

  put_first : (p lo : ℕ) (b : List Present) → lo ≤ p → Above lo b → put present_key sid_page (page_of sid p) b ≡ page_of sid p ∷ b
  unfolding put
  put_first p lo [] l h = refl
  put_first p lo (x ∷ b) l h = put_before present_key sid_page sid_page_lawful (page_of sid p) x b (h p l)

  put_between : (p lo : ℕ) (a b : List Present) → all under a ≡ true → lo ≤ p → Above lo b → put present_key sid_page (page_of sid p) (a ++ b) ≡ a ++ page_of sid p ∷ b
  put_between p lo a b u l h =
      put_behind present_key sid_page sid_page_lawful (page_of sid p) a b (all_weaken under _ a (lower p) u)
      ∙ ap (λ (m : List Present). a ++ m) (put_first p lo b l h)

  put_run : (ps : List ℕ) (lo hi : ℕ) (a b : List Present) → Climbs lo hi ps → all under a ≡ true → Above lo b
      → put_all present_key sid_page (map (page_of sid) ps) (a ++ b) ≡ a ++ (map (page_of sid) (reverse ps) ++ b)
  unfolding put_all
  put_run [] lo hi a b c u h = refl
  put_run (p ∷ ps) lo hi a b c u h =
      ap (put_all present_key sid_page (map (page_of sid) ps)) (put_between p lo a b u c.0 h)
      ∙ put_run ps (p + 1) hi a (page_of sid p ∷ b) c.2 u (λ q l. pages_fall p q (omega arith))
      ∙ ap (λ (m : List Present). a ++ m) (sym (append_assoc (map (page_of sid) (reverse ps)) (page_of sid p ∷ []) b)
      ∙ ap (λ (m : List Present). m ++ b) (sym (map-append (page_of sid) (reverse ps) (p ∷ [])) ∙ ap (map (page_of sid)) (sym (reverse-cons p ps))))

  -- ---- the place of the segment's last page parts the records

  module _ (kb : List ℕ) (last : ℕ) (n : Names presence kb (sid, last)) where
    abbrev at : List Present → ℕ
    at l = place (spot 21 kb (map present_bytes.spell l))

    record Parted (i : ℕ) (l : List Present) : Type 0 where
      below : all under (take i l) ≡ true
      above : Above 0 (drop i l)

    -- of another segment: how the segments stand decides
    stands : (x : Present) → of_segment sid x ≡ false → (o : Ordering) → sid_page (sid, last) (present_key x) ≡ o → bytes sid x.sid ≡ o
    stands x other o e = go (bytes sid x.sid) refl
      where
        go : (p : Ordering) → bytes sid x.sid ≡ p → bytes sid x.sid ≡ o
        go Ordering.lt q = q ∙ sym (ap (λ (y : Ordering). next y (down last x.page)) q) ∙ e
        go Ordering.eq q = absurd (clash (ap compare_is_eq q) other)
        go Ordering.gt q = q ∙ sym (ap (λ (y : Ordering). next y (down last x.page)) q) ∙ e

    later : (i : ℕ) (x : Present) (l : List Present) (o : Result ℕ ℕ) → i ≡ place o → under x ≡ true → Parted i l → Parted (place (spot_by Greater o)) (x ∷ l)
    unfolding all
    later i x l (Ok j) e u h = record { below = and_both u (ap (λ (m : ℕ). all under (take m l)) (sym e) ∙ h.below); above = subst_above j e h.above }
      where
        subst_above : (j : ℕ) → i ≡ j → Above 0 (drop i l) → Above 0 (drop j l)
        subst_above j e a = rw (← e) a
    later i x l (Err j) e u h = record { below = and_both u (ap (λ (m : ℕ). all under (take m l)) (sym e) ∙ h.below); above = subst_above j e h.above }
      where
        subst_above : (j : ℕ) → i ≡ j → Above 0 (drop i l) → Above 0 (drop j l)
        subst_above j e a = rw (← e) a

    parted : (l : List Present) → all present_form l ≡ true → any (of_segment sid) l ≡ false → Parted (at l) l
    unfolding all any
    parted [] f z = record { below = refl; above = tt }
    parted (x ∷ l) f z =
        let other = or_none (of_segment sid x) (any (of_segment sid) l) z in
        go (cmp 21 kb (present_bytes.spell x)) refl other.0 (n x (and_fst (present_form x) (all present_form l) f)) (parted l (and_snd (present_form x) (all present_form l) f) other.1)
      where
        go : (o : Order) → cmp 21 kb (present_bytes.spell x) ≡ o → of_segment sid x ≡ false → ordering (cmp 21 kb (present_bytes.spell x)) ≡ sid_page (sid, last) (present_key x) → Parted (at l) l
            → Parted (place (spot_by (cmp 21 kb (present_bytes.spell x)) (spot 21 kb (map present_bytes.spell l)))) (x ∷ l)
        go Less e s m h =
            let b = stands x s Ordering.lt (sym m ∙ ap ordering e) in
            rw e (record { below = refl; above = λ q k. ap (λ (y : Ordering). next y (down q x.page)) b })
        go Equal e s m h = absurd (clash (ap compare_is_eq (stands x s Ordering.eq (sym m ∙ ap ordering e))) s)
        go Greater e s m h =
            let b = stands x s Ordering.gt (sym m ∙ ap ordering e) in
            rw e (later (at l) x l (spot 21 kb (map present_bytes.spell l)) refl (ap is_lt (bytes_lawful.turn sid x.sid b)) h)

    -- ---- the table after

    module _ (t : List ℕ) (e : presence_ok t ≡ true) (z : any (of_segment sid) (presence_in t).rows ≡ false) (s : Pages) (c : Climbs 0 (2 ^ 32) (pages_in s)) (i : ℕ) (ei : i ≡ place (spot 21 kb (recs 21 t))) where
      abbrev l : List Present
      l = (presence_in t).rows

      at_is : at l ≡ i
      at_is = sym (ei ∙ ap (λ (rs : List (List ℕ)). place (spot 21 kb rs)) (rows_are presence t e))

      rows_after : put_all present_key sid_page (map (page_of sid) (pages_in s)) l ≡ take i l ++ (map (page_of sid) (reverse (pages_in s)) ++ drop i l)
      rows_after =
          let h = parted l (formed_forms presence t e) z in
          ap (put_all present_key sid_page (map (page_of sid) (pages_in s))) (sym (take-append-drop (at l) l))
          ∙ put_run (pages_in s) 0 (2 ^ 32) (take (at l) l) (drop (at l) l) c h.below h.above
          ∙ ap (λ (j : ℕ). take j l ++ (map (page_of sid) (reverse (pages_in s)) ++ drop j l)) at_is

      spelled_after : map present_bytes.spell (put_all present_key sid_page (map (page_of sid) (pages_in s)) l) ≡ take i (recs 21 t) ++ (page_rows sid (reverse (pages_in s)) ++ drop i (recs 21 t))
      spelled_after =
          let f = present_bytes.spell in
          ap (map f) rows_after
          ∙ map-append f (take i l) (map (page_of sid) (reverse (pages_in s)) ++ drop i l)
          ∙ ap₂ (λ (a b : List (List ℕ)). a ++ b) (map_take f i l ∙ ap (take i) (sym (rows_are presence t e)))
          (map-append f (map (page_of sid) (reverse (pages_in s))) (drop i l)
          ∙ ap (λ (b : List (List ℕ)). page_rows sid (reverse (pages_in s)) ++ b) (map_drop f i l ∙ ap (drop i) (sym (rows_are presence t e))))

      -- the bytes after
      run_laid : laid (take i (recs 21 t) ++ (page_rows sid (reverse (pages_in s)) ++ drop i (recs 21 t))) t ≡ laid_over present_bytes (now_present sid s (presence_in t)) t
      unfolding laid_over
      run_laid = ap (λ (rs : List (List ℕ)). laid rs t) (sym spelled_after)

      -- the number of records after
      long_after : length (put_all present_key sid_page (map (page_of sid) (pages_in s)) l) ≡ count_of t + size s
      long_after =
          ap length rows_after
          ∙ length-append (take i l) (map (page_of sid) (reverse (pages_in s)) ++ drop i l)
          ∙ omega (arith, length-append (map (page_of sid) (reverse (pages_in s))) (drop i l), length-map (reverse (pages_in s)) (page_of sid), length-reverse (pages_in s), ap length (take-append-drop i l), length-append (take i l) (drop i l), length_rows presence t)

      -- room for the pages is room for their number
      run_fits : holds 21 (count_of t + size s) t ≡ fits (now_present sid s (presence_in t))
      run_fits =
          ap (λ (m : ℕ). holds 21 m t) (sym (length-map (put_all present_key sid_page (map (page_of sid) (pages_in s)) l) present_bytes.spell ∙ long_after))
          ∙ fits_is presence (put_all present_key sid_page (map (page_of sid) (pages_in s)) l) t

-- ---- for the pages of a set by value

module _ (sid : Id) (l : length sid ≡ 16) (t : List ℕ) (e : presence_ok t ≡ true) (z : any (of_segment sid) (presence_in t).rows ≡ false) (s : PageSet) (f : normal s ≡ true) where
  named : (kb : List ℕ) → kb ≡ sid_page_bytes.spell (sid, 4294967295) → Names presence kb (sid, 4294967295)
  named kb ek = names kb sid 4294967295 l (omega arith) ek

  -- room for them is room for their number
  pub pages_fit : holds 21 (count_of t + size (shown s)) t ≡ fits (now_present sid (shown s) (presence_in t))
  pages_fit = run_fits sid (sid_page_bytes.spell (sid, 4294967295)) 4294967295 (named _ refl) t e z (shown s) (pages_climb s f) _ refl

  pub pages_room : fits (now_present sid (shown s) (presence_in t)) ≡ true → (count_of t + size (shown s) ≤ 65535) × (2 + (count_of t + size (shown s)) * 21 ≤ length t)
  pages_room h =
      let c = fits_cap 21 (count_of t + size (shown s)) t (pages_fit ∙ h) in
      (cap_small 21 (count_of t + size (shown s)) t c, cap_room 21 (count_of t + size (shown s)) t (omega arith) (formed_two presence t e) c)

  -- the bytes with their run at the place of the segment's last page
  pub pages_laid : (kb : List ℕ) → kb ≡ sid_page_bytes.spell (sid, 4294967295) → (i : ℕ) → i ≡ place (spot 21 kb (recs 21 t))
      → laid (take i (recs 21 t) ++ (page_rows sid (reverse (pages_in (shown s))) ++ drop i (recs 21 t))) t ≡ laid_over present_bytes (now_present sid (shown s) (presence_in t)) t
  pages_laid kb ek i ei = run_laid sid kb 4294967295 (named kb ek) t e z (shown s) (pages_climb s f) i ei
