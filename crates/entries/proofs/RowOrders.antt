-- How two records in form stand: byte by byte is number by number, since their reserved bytes are both 0.
use Rattle.std.proofs.Common.{◌≡◌, ℕ, ◌+◌, ◌≤◌, true, ltb, List, length, sym, refl, ap, ◌∙◌, arith, le-ltb, lt-ltb}
use Rattle.octets.specs.Bytes.{be, part, AreBytes}
use Rattle.octets.specs.Order.{order, then_by, lex, is_less}
use Rattle.std.proofs.Common.{Ordering}
use Rattle.octets.proofs.Places as P
use Rattle.octets.proofs.Orders as O
use Rattle.table.specs.Records.{cmp}
use Rattle.rules.specs.Forms.{checkpoint_form, entry_form, present_form}
use Rattle.layout.specs.Codecs.{in_form}
use Rattle.layout.specs.Records.{checkpoint_bytes, entry_bytes, present_bytes}
use Rattle.entries.specs.declared.Row.{Row}
use Rattle.entries.specs.Keys.{Keyed, Checkpoints, Index, Presence, size_of, row_form, row_of, row_order}
use Rattle.entries.proofs.RowForms.{checkpoint_asked, entry_asked, present_asked, byte_is}

-- a record in form has the reserved byte 0
reserved_zero : (k : Keyed) (z : List ℕ) → AreBytes z → length z ≡ size_of k → row_form k z ≡ true → be (part 0 1 z) ≡ 0
reserved_zero Checkpoints z b l f = byte_is _ _ (be (part 0 1 z)) (ap (in_form checkpoint_bytes checkpoint_form) (sym (P.part_whole 25 z l)) ∙ checkpoint_asked z 0 b (omega arith)) f
reserved_zero Index z b l f = byte_is _ _ (be (part 0 1 z)) (ap (in_form entry_bytes entry_form) (sym (P.part_whole 29 z l)) ∙ entry_asked z 0 b (omega arith)) f
reserved_zero Presence z b l f = byte_is _ _ (be (part 0 1 z)) (ap (in_form present_bytes present_form) (sym (P.part_whole 21 z l)) ∙ present_asked z 0 b (omega arith)) f

module _ (x y : List ℕ) (bx : AreBytes x) (by : AreBytes y) where
  -- a number at a place of both, and what follows it
  number_then : (at k n : ℕ) → at + (k + n) ≤ length x → at + (k + n) ≤ length y
      → lex (part at (k + n) x) (part at (k + n) y) ≡ then_by (order (be (part at k x)) (be (part at k y))) (lex (part (at + k) n x) (part (at + k) n y))
  number_then at k n hx hy =
      O.lex_two x y at at k n hx hy
      ∙ ap (λ o. then_by o (lex (part (at + k) n x) (part (at + k) n y))) (O.lex_be_at x y at at k bx by (omega arith) (omega arith))

  -- behind reserved bytes that are 0: the two halves of the identifier, and the n bytes behind it
  front : (n : ℕ) → 17 + n ≤ length x → 17 + n ≤ length y → be (part 0 1 x) ≡ 0 → be (part 0 1 y) ≡ 0
      → cmp (17 + n) x y ≡ then_by (order (be (part 1 8 x)) (be (part 1 8 y))) (then_by (order (be (part 9 8 x)) (be (part 9 8 y))) (lex (part 17 n x) (part 17 n y)))
  unfolding then_by
  front n hx hy zx zy =
      let a : 17 + n ≡ 1 + (8 + (8 + n)) = omega arith in
      ap (λ m. cmp m x y) a
      ∙ number_then 0 1 (8 + (8 + n)) (omega arith) (omega arith)
      ∙ ap (λ o. then_by o (lex (part 1 (8 + (8 + n)) x) (part 1 (8 + (8 + n)) y))) (O.order_equal (be (part 0 1 x)) (be (part 0 1 y)) (zx ∙ sym zy))
      ∙ number_then 1 8 (8 + n) (omega arith) (omega arith)
      ∙ ap (then_by (order (be (part 1 8 x)) (be (part 1 8 y)))) (number_then 9 8 n (omega arith) (omega arith))

  -- the number that is the last
  last_number : (at k : ℕ) → at + k ≤ length x → at + k ≤ length y → lex (part at k x) (part at k y) ≡ order (be (part at k x)) (be (part at k y))
  last_number at k hx hy = O.lex_be_at x y at at k bx by hx hy

  behind : {o p : Ordering} → o ≡ p → then_by (order (be (part 1 8 x)) (be (part 1 8 y))) (then_by (order (be (part 9 8 x)) (be (part 9 8 y))) o) ≡ then_by (order (be (part 1 8 x)) (be (part 1 8 y))) (then_by (order (be (part 9 8 x)) (be (part 9 8 y))) p)
  behind e = ap (λ q. then_by (order (be (part 1 8 x)) (be (part 1 8 y))) (then_by (order (be (part 9 8 x)) (be (part 9 8 y))) q)) e

  -- two records in form, of each table
  pub row_order_lem : (k : Keyed) → length x ≡ size_of k → length y ≡ size_of k → row_form k x ≡ true → row_form k y ≡ true → cmp (size_of k) x y ≡ row_order (row_of k x) (row_of k y)
  unfolding then_by
  row_order_lem Checkpoints lx ly fx fy =
      front 8 (omega arith) (omega arith) (reserved_zero Checkpoints x bx lx fx) (reserved_zero Checkpoints y by ly fy)
      ∙ behind (last_number 17 8 (omega arith) (omega arith) ∙ ap (λ o. then_by o (order (be (part 17 8 x)) (be (part 17 8 y)))) (sym (O.order_equal 0 0 refl)))
  row_order_lem Index lx ly fx fy =
      front 12 (omega arith) (omega arith) (reserved_zero Index x bx lx fx) (reserved_zero Index y by ly fy)
      ∙ behind (number_then 17 4 8 (omega arith) (omega arith) ∙ ap (then_by (order (be (part 17 4 x)) (be (part 17 4 y)))) (last_number 21 8 (omega arith) (omega arith)))
  row_order_lem Presence lx ly fx fy =
      front 4 (omega arith) (omega arith) (reserved_zero Presence x bx lx fx) (reserved_zero Presence y by ly fy)
      ∙ behind (last_number 17 4 (omega arith) (omega arith) ∙ sym (O.then_equal (order (be (part 17 4 x)) (be (part 17 4 y)))) ∙ ap (then_by (order (be (part 17 4 x)) (be (part 17 4 y)))) (sym (O.order_equal 0 0 refl)))

-- ---- number by number, as the code compares

is_less_order : (m n : ℕ) → is_less (order m n) ≡ ltb m n
is_less_order m n =
    O.orders m n
    (λ h e. ap is_less e ∙ sym (lt-ltb m n h))
    (λ h e. ap is_less e ∙ sym (le-ltb m n (omega arith)))
    (λ h e. ap is_less e ∙ sym (le-ltb m n (omega arith)))

-- numbers that differ decide, and after equal ones the others do
decides : (m n : ℕ) (o : Ordering) → (m ≡ n → ⊥) → ltb m n ≡ is_less (then_by (order m n) o)
decides m n o h = sym (ap is_less (O.then_decided (order m n) o (O.order_differs m n h)) ∙ is_less_order m n)

passes : (m n : ℕ) (o : Ordering) → m ≡ n → o ≡ then_by (order m n) o
unfolding then_by
passes m n o h = ap (λ p. then_by p o) (sym (O.order_equal m n h))

module _ (x y : Row) where
  pub by_high : (x.high ≡ y.high → ⊥) → ltb x.high y.high ≡ is_less (row_order x y)
  by_high h = decides x.high y.high _ h

  module _ (e : x.high ≡ y.high) where
    pub by_low : (x.low ≡ y.low → ⊥) → ltb x.low y.low ≡ is_less (row_order x y)
    by_low h = decides x.low y.low _ h ∙ ap is_less (passes x.high y.high _ e)

    module _ (f : x.low ≡ y.low) where
      pub by_page : (x.page ≡ y.page → ⊥) → ltb x.page y.page ≡ is_less (row_order x y)
      by_page h = decides x.page y.page _ h ∙ ap is_less (passes x.low y.low _ f ∙ passes x.high y.high _ e)

      pub by_lsn : x.page ≡ y.page → ltb x.lsn y.lsn ≡ is_less (row_order x y)
      by_lsn g = sym (is_less_order x.lsn y.lsn) ∙ ap is_less (passes x.page y.page _ g ∙ passes x.low y.low _ f ∙ passes x.high y.high _ e)
