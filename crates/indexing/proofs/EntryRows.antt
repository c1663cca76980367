-- The rows of index entries: their bytes, and what `with_page` makes of them; and that the rows of rising pages rise, since all else in them is the same.
use Rattle.std.proofs.Common.{◌≡◌, ℕ, suc, ◌+◌, ◌^◌, ◌<◌, true, List, [], ◌∷◌, ◌++◌, map, length, drop, sym, refl, ap, ◌∙◌, ap₂, append_assoc, arith, length-append, take_at, drop_at}
use Rattle.octets.specs.Bytes.{bytes_of, down, part, put}
use Rattle.octets.specs.Order.{lex, then_by}
use Rattle.std.proofs.Common.{Less}
use Rattle.octets.proofs.Numbers as N
use Rattle.octets.proofs.Orders as O
use Rattle.octets.proofs.Places as P
use Rattle.table.specs.Records.{cmp, rises}
use Rattle.table.specs.Table.{Each}
use Rattle.table.proofs.Keys.{rises_cons}
use Rattle.layout.specs.Records.{log_page_lsn_bytes, entry_bytes}
use Rattle.pagesdown.proofs.Climbs.{Climbs}
use Rattle.indexing.specs.Rows.{entry_row, with_page}

-- ---- the bytes of a row

-- an entry is its key
pub key_row : (log : List ℕ) (lsn p : ℕ) → log_page_lsn_bytes.spell (log, (p, lsn)) ≡ entry_row log lsn p
unfolding entry_bytes
key_row log lsn p = refl

-- the page, and what stands before and after it
entry_row_lem : (log : List ℕ) (lsn p : ℕ) → entry_row log lsn p ≡ (0 ∷ log) ++ (bytes_of 4 p ++ down 8 lsn)
unfolding entry_bytes log_page_lsn_bytes
entry_row_lem log lsn p = refl

module _ (log : List ℕ) (h : length log ≡ 16) (lsn : ℕ) where
  pub row_long : (p : ℕ) → length (entry_row log lsn p) ≡ 29
  row_long p =
      ap length (entry_row_lem log lsn p) ∙ P.length_two 17 12 (0 ∷ log) (bytes_of 4 p ++ down 8 lsn) (ap suc h ∙ omega arith) (P.length_two 4 8 (bytes_of 4 p) (down 8 lsn) (N.length_bytes_of 4 p) (N.length_down 8 lsn))

-- a run over the midst
put_mid : (k n : ℕ) (a b c xs : List ℕ) → length a ≡ k → length b ≡ n → length xs ≡ n → put k xs (a ++ (b ++ c)) ≡ a ++ (xs ++ c)
unfolding put
put_mid k n a b c xs e f g =
    let s : k + length xs ≡ length (a ++ b) = omega (arith, length-append a b) in
    ap₂ (λ (x y : List ℕ). x ++ (xs ++ y)) (take_at a (b ++ c) k e)
    (ap (drop (k + length xs)) (sym (append_assoc a b c)) ∙ drop_at (a ++ b) c (k + length xs) (sym s))

module _ (log : List ℕ) (h : length log ≡ 16) (lsn : ℕ) where
  front_long : length (0 ∷ log) ≡ 17
  front_long = ap suc h ∙ omega arith

  -- another page
  pub row_page : (p q : ℕ) → with_page (entry_row log lsn q) p ≡ entry_row log lsn p
  row_page p q =
      ap (put 17 (bytes_of 4 p)) (entry_row_lem log lsn q)
      ∙ put_mid 17 4 (0 ∷ log) (bytes_of 4 q) (down 8 lsn) (bytes_of 4 p) front_long (N.length_bytes_of 4 q) (N.length_bytes_of 4 p)
      ∙ sym (entry_row_lem log lsn p)

  -- ---- the order of rows

  whole : (p : ℕ) → part 0 29 (entry_row log lsn p) ≡ (0 ∷ log) ++ (bytes_of 4 p ++ down 8 lsn)
  whole p = P.part_whole 29 (entry_row log lsn p) (row_long log h lsn p) ∙ entry_row_lem log lsn p

  row_less : (p q : ℕ) → p < q → q < 2 ^ 32 → cmp 29 (entry_row log lsn p) (entry_row log lsn q) ≡ Less
  unfolding then_by
  row_less p q l m =
      ap₂ lex (whole p) (whole q)
      ∙ O.lex_front (0 ∷ log) (bytes_of 4 p ++ down 8 lsn) (bytes_of 4 q ++ down 8 lsn)
      ∙ O.lex_append (bytes_of 4 p) (down 8 lsn) (bytes_of 4 q) (down 8 lsn) (N.length_bytes_of 4 p ∙ sym (N.length_bytes_of 4 q))
      ∙ rw (O.lex_bytes_of 4 p q (omega arith) (omega arith), O.order_less p q l)

  pub rows_rise : (lo : ℕ) (ps : List ℕ) → Climbs lo (2 ^ 32) ps → rises 29 (map (entry_row log lsn) ps) ≡ true
  rows_rise lo [] c = refl
  rows_rise lo (p ∷ []) c = refl
  rows_rise lo (p ∷ q ∷ ps) c =
      rises_cons 29 (entry_row log lsn p) (entry_row log lsn q) (map (entry_row log lsn) ps) (row_less p q (omega (arith, c.2.0)) c.2.1) (rows_rise (p + 1) (q ∷ ps) c.2)

  pub rows_long : (ps : List ℕ) → Each 29 (map (entry_row log lsn) ps)
  rows_long [] = tt
  rows_long (p ∷ ps) = (row_long log h lsn p, rows_long ps)
