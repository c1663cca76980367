-- All rows of a table as a list: the bytes behind the count are the bytes of its records, and as many fit as the rule's list has places. A formed table passes the rule's own 20. Assumes nothing.
use Rattle.std.proofs.Common.{◌≡◌, ℕ, ◌+◌, ◌-◌, ◌*◌, ◌/◌, ◌<◌, ◌≤◌, Bool, true, cond, leb, List, length, sym, ap, ◌∙◌, ap₂, arith, le-leb}
use Prim.Native.Nat.{Ordering}
use borrow.Author.Tests.{lt-leb}
use Rattle.octets.specs.Bytes.{part, put}
use Rattle.octets.specs.Flat.{flat}
use Rattle.basics.specs.Answers.{done, ask, ◌>>◌}
use Rattle.rules.specs.Reads.{volume_list, tag_list}
use Rattle.table.specs.Table.{count_of}
use Rattle.table.proofs.Checks.{well_room}
use Rattle.layout.specs.Codecs.{Codec}
use Rattle.layout.specs.Tables.{formed_in, table_in, volumes_in, volumes_ok, tags_in, tags_ok}
use Rattle.layout.specs.Lent.{lent}
use Rattle.layout.proofs.LentLaws.{lent_yes}
use Rattle.rows.proofs.Rows.{Layout, formed_well, formed_two, formed_rules, length_rows}
use Rattle.rows.proofs.Tables.{volumes, tags}
use Rattle.arguments.specs.declared.Reply.{Reply}
use Rattle.arguments.specs.Replies.{none_under, given}
use Rattle.resultlists.specs.Lists.{slots_in, list_left}
use Rattle.resultlists.proofs.AnswerLaws.{left_asked}
use Rattle.resultlists.proofs.RowLaws.{rows_bytes, table_rows}
use Rattle.listcalls.specs.Runs.{rows_put}

-- ---- the ways out of the code, n the count that it read

module _ (s : ℕ) (t was : List ℕ) (items n : ℕ) (k : n ≡ count_of t) where
  abbrev by : Bool → List ℕ → ℕ → Reply × (List ℕ × ℕ)
  by b u m = cond b (given, (u, m)) (none_under 19, (was, items))

  -- too short
  pub rows_short : length was / s < n → (none_under 19, (was, items)) ≡ rows_put s t was items
  unfolding rows_put
  rows_short h = sym (ap (λ (b : Bool). by b (put 0 (part 2 (count_of t * s) t) was) (count_of t)) (ap (λ (m : ℕ). leb m (length was / s)) (sym k) ∙ lt-leb n (length was / s) h))

  -- put
  pub rows_put_lem : n ≤ length was / s → (u : List ℕ) → u ≡ put 0 (part 2 (n * s) t) was → (given, (u, n)) ≡ rows_put s t was items
  unfolding rows_put
  rows_put_lem h u e =
      ap (λ (x : List ℕ). (given, (x, n))) e
      ∙ ap (λ (m : ℕ). (given, (put 0 (part 2 (m * s) t) was, m))) k
      ∙ sym (ap (λ (b : Bool). by b (put 0 (part 2 (count_of t * s) t) was) (count_of t)) (ap (λ (m : ℕ). leb m (length was / s)) (sym k) ∙ le-leb n (length was / s) h))

-- ---- what that leaves is the rule's list

module _ {R K : Type 0} {c : Codec R} {s k : ℕ} {form : R → Bool} {key : R → K} {order : K → K → Ordering} (L : Layout c s k form key order) (t : List ℕ) (e : formed_in c k form t ≡ true) where
  -- what the code asks of a table that it copies
  pub rows_ready : (0 < s) × (2 ≤ length t) × (2 + count_of t * s ≤ length t)
  rows_ready = (L.sized, formed_two L t e, well_room s k t L.sized (formed_well L t e))

  bytes_are : part 2 (count_of t * s) t ≡ flat c.spell (table_in c t).rows
  bytes_are =
      let a : 2 + 0 * s ≡ 2 = omega arith in
      let n : count_of t - 0 ≡ count_of t = omega arith in
      sym (ap₂ (λ (i m : ℕ). part i (m * s) t) a n) ∙ sym (rows_bytes L t e 0 (count_of t) (omega arith) (omega arith)) ∙ ap (flat c.spell) (table_rows L t e)

  module _ (was : List ℕ) (items : ℕ) where
    abbrev held : Bool → Reply × (List ℕ × ℕ)
    held b = cond b (given, (put 0 (flat c.spell (table_in c t).rows) was, length (table_in c t).rows)) (none_under 19, (was, items))

    pub rows_left : rows_put s t was items ≡ list_left c was items (ask (leb (length (table_in c t).rows) (slots_in c was)) 19 >> done (table_in c t).rows)
    unfolding rows_put
    rows_left =
        ap₂ (λ (m : ℕ) (b : List ℕ). cond (leb m (length was / s)) (given, (put 0 b was, m)) (none_under 19, (was, items))) (sym (length_rows L t)) bytes_are
        ∙ ap (λ (w : ℕ). held (leb (length (table_in c t).rows) (length was / w))) (sym L.wide)
        ∙ left_asked c was items (leb (length (table_in c t).rows) (slots_in c was)) (table_in c t).rows

-- ---- the two rules

module _ (t : List ℕ) (slots : ℕ) where
  pub volumes_listed : volumes_ok t ≡ true → lent (volumes_ok t) (volume_list (volumes_in t) slots) ≡ (ask (leb (length (volumes_in t).rows) slots) 19 >> done (volumes_in t).rows)
  unfolding volume_list
  volumes_listed e =
      lent_yes (volumes_ok t) (volume_list (volumes_in t) slots) e
      ∙ ap (λ (b : Bool). ask b 20 >> (ask (leb (length (volumes_in t).rows) slots) 19 >> done (volumes_in t).rows)) (formed_rules volumes t e)

  pub tags_listed : tags_ok t ≡ true → lent (tags_ok t) (tag_list (tags_in t) slots) ≡ (ask (leb (length (tags_in t).rows) slots) 19 >> done (tags_in t).rows)
  unfolding tag_list
  tags_listed e =
      lent_yes (tags_ok t) (tag_list (tags_in t) slots) e
      ∙ ap (λ (b : Bool). ask b 20 >> (ask (leb (length (tags_in t).rows) slots) 19 >> done (tags_in t).rows)) (formed_rules tags t e)
