-- A record's fields, tested one by one as the code does: the identifier as bytes, then the numbers.
use Rattle.std.specs.Prelude.{◌≡◌, ℕ, ◌+◌, ◌<◌, ◌≤◌, Bool, true, false, not, ◌&&◌, eqb, leb, List}
use mathlib.Core.Path.{sym, ap, ◌∙◌}
use native.Mathlib.Omega.{arith}
use borrow.Author.Tests.{eq-eqb, ne_eqb, le-leb, lt-leb, not-true, not-false}
use Rattle.octets.specs.Bytes.{part}
use Rattle.octets.specs.Order.{lex, is_equal}
use Rattle.octets.proofs.Places as P
use Rattle.rules.specs.Records.{Range, Checkpoint, Entry}
use Rattle.rules.specs.Tables.{same_id}
use Rattle.rules.specs.Search.{entry_in}
use Rattle.rules.proofs.Facts.{id_is}
use Rattle.table.proofs.Rows.{key_at}
use Rattle.layout.specs.Records.{log_lsn_bytes, log_page_lsn_bytes, checkpoint_bytes, entry_bytes}

module _ (t : List ℕ) (at : ℕ) where
  -- the identifier of a record stands behind the reserved byte
  pub checkpoint_log : (checkpoint_bytes.read (part at 25 t)).log ≡ part (at + 1) 16 t
  unfolding checkpoint_bytes log_lsn_bytes
  checkpoint_log = key_at 24 16 1 (part at 25 t) (omega arith) ∙ P.part_part at 25 1 16 t (omega arith)

  pub entry_log : (entry_bytes.read (part at 29 t)).log ≡ part (at + 1) 16 t
  unfolding entry_bytes log_page_lsn_bytes
  entry_log = key_at 28 16 1 (part at 29 t) (omega arith) ∙ P.part_part at 29 1 16 t (omega arith)

-- ---- test by test: b is what the code says of the logs

-- the log's checkpoint at or below an LSN
module _ (k : Checkpoint) (log id : List ℕ) (lsn : ℕ) (el : k.log ≡ id) (b : Bool) (eb : b ≡ is_equal (lex log id)) where
  log_is : same_id log k.log ≡ b
  log_is = ap (same_id log) el ∙ sym (id_is log id) ∙ sym eb

  pub other_log_lem : not b ≡ true → false ≡ (same_id log k.log && leb k.lsn lsn)
  other_log_lem h = sym (ap (λ p. p && leb k.lsn lsn) (log_is ∙ not-true b h))

  pub same_log : not b ≡ false → (n : ℕ) → n ≡ k.lsn → leb n lsn ≡ (same_id log k.log && leb k.lsn lsn)
  same_log h n e = ap (λ m. leb m lsn) e ∙ sym (ap (λ p. p && leb k.lsn lsn) (log_is ∙ not-false b h))

-- an entry of a page, in a range
module _ (e : Entry) (r : Range) (p : ℕ) (id : List ℕ) (el : e.log ≡ id) (b : Bool) (eb : b ≡ is_equal (lex r.log id)) where
  entry_log_is : same_id r.log e.log ≡ b
  entry_log_is = ap (same_id r.log) el ∙ sym (id_is r.log id) ∙ sym eb

  in_is : entry_in r p e ≡ (b && eqb p e.page && leb r.start e.lsn && leb e.lsn r.end)
  unfolding entry_in
  in_is = ap (λ q. q && eqb p e.page && leb r.start e.lsn && leb e.lsn r.end) entry_log_is

  pub in_other : not b ≡ true → false ≡ entry_in r p e
  in_other h = sym (in_is ∙ simp (not-true b h))

  module _ (h : not b ≡ false) (q : ℕ) (eq : q ≡ e.page) where
    pub in_page_not : (p ≡ q → ⊥) → false ≡ entry_in r p e
    in_page_not n = sym (in_is ∙ simp (not-false b h, ne_eqb p e.page (λ z. n (z ∙ sym eq))))

    module _ (m : p ≡ q) (n : ℕ) (en : n ≡ e.lsn) where
      pub in_below : n < r.start → false ≡ entry_in r p e
      in_below l =
          let g : e.lsn < r.start = omega arith in
          sym (in_is ∙ simp (not-false b h, eq-eqb p e.page (m ∙ eq), lt-leb r.start e.lsn g))

      pub in_end : r.start ≤ n → leb n r.end ≡ entry_in r p e
      in_end l =
          let g : r.start ≤ e.lsn = omega arith in
          ap (λ x. leb x r.end) en ∙ sym (in_is ∙ simp (not-false b h, eq-eqb p e.page (m ∙ eq), le-leb r.start e.lsn g))
