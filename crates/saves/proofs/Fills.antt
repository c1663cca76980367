-- The loop that stores the rows of a set's pages, last page first: what is still to be stored, put behind what is stored, is all of it. And the three stores of
-- `put_pages`: the records behind the place moved up, the new rows in the gap, the count.
use Rattle.std.proofs.Common.{◌≡◌, ℕ, ◌+◌, ◌-◌, ◌*◌, ◌≤◌, List, [], ◌∷◌, ◌++◌, map, reverse, length, take, drop, sym, refl, ap, ◌∙◌, arith, length-append}
use mathlib.Core.List.{reverse-append}
use lib.ListN.{length-map, length-reverse}
use Rattle.octets.specs.Bytes.{bytes_of, down, part}
use Rattle.octets.specs.Bytes as B
use Rattle.octets.proofs.Numbers as N
use Rattle.octets.proofs.Places as P
use Rattle.rules.specs.Records.{Id, Pages}
use Rattle.rules.specs.Pages.{pages_in, size}
use Rattle.table.specs.Table.{join, Each, count_of, recs, laid}
use Rattle.table.proofs.Rows.{length_join, join_cons, join_none, laid_parts}
use Rattle.layout.specs.Records.{sid_page_bytes, present_bytes}
use Rattle.presence.specs.Pages.{page_of}
use Rattle.presence.proofs.PresentLaws.{record_is}
use Rattle.saves.specs.Added.{page_rows, filled}

-- ---- rows

key_row : (sid : Id) (p : ℕ) → sid_page_bytes.spell (sid, p) ≡ 0 ∷ (sid ++ down 4 p)
unfolding sid_page_bytes
key_row sid p = refl

module _ (sid : Id) (h : length sid ≡ 16) where
  row_long : (p : ℕ) → length (present_bytes.spell (page_of sid p)) ≡ 21
  row_long p = ap length (sym (record_is sid p) ∙ key_row sid p) ∙ omega (arith, P.length_two 16 4 sid (down 4 p) h (N.length_down 4 p))

  rows_each : (ps : List ℕ) → Each 21 (page_rows sid ps)
  rows_each [] = tt
  rows_each (p ∷ ps) = (row_long p, rows_each ps)

  rows_number : (ps : List ℕ) → length (page_rows sid (reverse ps)) ≡ length ps
  rows_number ps = length-map (map (page_of sid) (reverse ps)) present_bytes.spell ∙ length-map (reverse ps) (page_of sid) ∙ length-reverse ps

  rows_long : (ps : List ℕ) → length (join (page_rows sid (reverse ps))) ≡ length ps * 21
  rows_long ps =
      length_join 21 (page_rows sid (reverse ps)) (rows_each (reverse ps))
      ∙ ap (λ (n : ℕ). n * 21) (rows_number ps)

  filled_long : (s : Pages) → length (filled sid s) ≡ size s * 21
  filled_long s = rows_long (pages_in s)

  -- ---- a turn: p is the last of the pages ps, and qs are those before it

  module _ (ps qs : List ℕ) (p : ℕ) (split : ps ≡ qs ++ p ∷ []) where
    left_long : length ps ≡ length qs + 1
    left_long = ap length split ∙ length-append qs (p ∷ []) ∙ omega arith

    join_last : join (page_rows sid (reverse ps)) ≡ present_bytes.spell (page_of sid p) ++ join (page_rows sid (reverse qs))
    join_last =
        ap (λ (l : List ℕ). join (page_rows sid l)) (ap reverse split ∙ reverse-append qs (p ∷ []))
        ∙ join_cons (present_bytes.spell (page_of sid p)) (page_rows sid (reverse qs))

    pub fill_turn : (to : ℕ) (row t u all : List ℕ) → row ≡ sid_page_bytes.spell (sid, p) → u ≡ B.put to row t → to + length ps * 21 ≤ length t
        → B.put to (join (page_rows sid (reverse ps))) t ≡ all → B.put (to + 21) (join (page_rows sid (reverse qs))) u ≡ all
    fill_turn to row t u all er eu room was =
        let r : List ℕ = present_bytes.spell (page_of sid p) in
        ap (B.put (to + 21) (join (page_rows sid (reverse qs)))) (eu ∙ ap (λ (x : List ℕ). B.put to x t) (er ∙ record_is sid p))
        ∙ P.put_next to 21 (length qs * 21) r (join (page_rows sid (reverse qs))) t (row_long p) (rows_long qs) (omega (arith, left_long))
        ∙ ap (λ (x : List ℕ). B.put to x t) (sym join_last) ∙ was

  -- nothing is left
  pub fill_end : (ps : List ℕ) → ps ≡ [] → (to : ℕ) (t all : List ℕ) → B.put to (join (page_rows sid (reverse ps))) t ≡ all → t ≡ all
  fill_end ps z to t all was =
      sym (P.put_none to t) ∙ ap (λ (x : List ℕ). B.put to x t) (sym (ap (λ (l : List ℕ). join (page_rows sid (reverse l))) z ∙ join_none)) ∙ was

  -- ---- the three stores

  run_at : (t u v w : List ℕ) (i n at : ℕ) (s : Pages) → i ≤ count_of t → n ≡ size s → at ≡ 2 + i * 21 → 2 + (count_of t + n) * 21 ≤ length t
      → u ≡ B.put (at + n * 21) (part at ((count_of t - i) * 21) t) t → v ≡ B.put at (filled sid s) u → w ≡ B.put 0 (bytes_of 2 (count_of t + n)) v
      → w ≡ laid (take i (recs 21 t) ++ (page_rows sid (reverse (pages_in s)) ++ drop i (recs 21 t))) t
  run_at t u v w i n at s li en ea room eu ev ew =
      let m : ℕ = count_of t in
      let tail : List ℕ = part at ((m - i) * 21) t in
      let rows : List (List ℕ) = page_rows sid (reverse (pages_in s)) in
      let lr : length rows ≡ n = rows_number (pages_in s) ∙ sym en in
      let lt : length tail ≡ (m - i) * 21 = P.length_part at ((m - i) * 21) t (omega arith) in
      let two : v ≡ B.put at (filled sid s ++ tail) t =
      ev ∙ ap (B.put at (filled sid s)) eu ∙ P.put_front at (n * 21) ((m - i) * 21) (filled sid s) tail t (filled_long s ∙ ap (λ (k : ℕ). k * 21) (sym en)) lt (omega arith) in
      ew
      ∙ ap (B.put 0 (bytes_of 2 (m + n))) (two ∙ ap (λ (a : ℕ). B.put a (join rows ++ part a ((m - i) * 21) t) t) ea)
      ∙ laid_parts 21 t i i rows (omega arith) li (omega arith) (rows_each (reverse (pages_in s))) (m + n) (omega arith) room

  -- m is the count that was read
  pub run_stored : (t u v w : List ℕ) (m i n at : ℕ) (s : Pages) → m ≡ count_of t → i ≤ count_of t → n ≡ size s → at ≡ 2 + i * 21 → 2 + (count_of t + size s) * 21 ≤ length t
      → u ≡ B.put (at + n * 21) (part at ((m - i) * 21) t) t → v ≡ B.put at (filled sid s) u → w ≡ B.put 0 (bytes_of 2 (m + n)) v
      → w ≡ laid (take i (recs 21 t) ++ (page_rows sid (reverse (pages_in s)) ++ drop i (recs 21 t))) t
  run_stored t u v w m i n at s em li en ea room eu ev ew =
      run_at t u v w i n at s li en ea (omega arith) (eu ∙ ap (λ (k : ℕ). B.put (at + n * 21) (part at ((k - i) * 21) t) t) em) ev (ew ∙ ap (λ (k : ℕ). B.put 0 (bytes_of 2 (k + n)) v) em)
