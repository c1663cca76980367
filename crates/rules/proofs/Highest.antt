-- "The first of those that .." is the highest LSN: latest, checkpoint lookup, search, ranges. In key order LSNs go down within a log (and page), so of
-- the records of one log the first that passes a test has the highest LSN; and no other has, since keys strictly rise.
use Rattle.std.proofs.Common.{◌≡◌, ℕ, ◌<◌, Bool, true, ◌&&◌, leb, ◌↔◌, List, sym, ap, ◌∙◌, ⊎_elim, arith}
use Prim.Native.Nat.{Ordering}
use mathlib.Core.Option.{Option, some}
use Rattle.basics.specs.Orders.{log_lsn, log_page_lsn}
use Rattle.rules.specs.Lists.{first, those}
use Rattle.rules.specs.Records.{Id, Commit, Entry, Checkpoint, Range, commit_key, checkpoint_key, entry_key}
use Rattle.rules.specs.Forms.{commit_form, checkpoint_form, entry_form}
use Rattle.rules.specs.Tables.{Table, in_order, commits_formed, checkpoints_formed, index_formed, same_id, latest, checkpoint_at}
use Rattle.rules.specs.Walk.{in_range}
use Rattle.rules.specs.Search.{entry_in}
use Rattle.rules.specs.Promises.{Highest}
use Rattle.basics.proofs.OrderLaws.{Lawful, log_lsn_lawful, log_page_lsn_lawful}
use Rattle.rules.proofs.TableLaws.{options, clash, and_fst, first_some, first_none, first_least, first_those, formed_parts}
use Rattle.rules.proofs.Facts.{same_id_lem, falls, falls_page, in_range_lem, entry_in_lem}

-- one law for every table and every test
module _ {R K : Type 0} (key : R → K) (order : K → K → Ordering) (O : Lawful order) (lsn_of : R → ℕ) (f : R → Bool)
    (falling : (x y : R) → f x ≡ true → f y ≡ true → order (key x) (key y) ≡ Ordering.lt → lsn_of y < lsn_of x) (l : List R) (up : in_order key order l ≡ true) where
  first_highest : (x : R) → (first f l ≡ some x) ↔ Highest lsn_of f l x
  first_highest x = (to, from)
    where
      to : first f l ≡ some x → Highest lsn_of f l x
      to e =
          let s = first_some f l e in
          record {
            stored = s.0;
            passes = s.1;
            highest = λ y m h. ⊎_elim (λ o. omega (arith, falling x y s.1 h o)) (λ q. omega (arith, ap lsn_of q)) (first_least key order O f l up e m h);
          }

      from : Highest lsn_of f l x → first f l ≡ some x
      from h =
          options (first f l) (λ n. absurd (clash h.passes (first_none f l n h.stored)))
          (λ d n. let s = first_some f l n in
          ⊎_elim (λ o. absurd (omega (arith, falling d x s.1 h.passes o, h.highest d s.0 s.1))) (λ q. n ∙ ap {B = Option R} some q)
          (first_least key order O f l up n h.stored h.passes))

-- T3: a log's latest
pub latest_highest : (cs : Table Commit) (log : Id) (c : Commit) → commits_formed cs ≡ true → (latest cs log ≡ some c) ↔ Highest (λ (d : Commit). d.lsn) (λ d. same_id log d.log) cs.rows c
latest_highest cs log c f =
    first_highest commit_key log_lsn log_lsn_lawful (λ (d : Commit). d.lsn) (λ d. same_id log d.log)
    (λ x y a b o. falls (commit_key x) (commit_key y) (sym (same_id_lem log x.log a) ∙ same_id_lem log y.log b) o) cs.rows (formed_parts commit_key log_lsn log_lsn_lawful commit_form cs f).up c

-- T3: the checkpoint at or below an LSN
pub checkpoint_highest : (ks : Table Checkpoint) (log : Id) (lsn : ℕ) (k : Checkpoint) → checkpoints_formed ks ≡ true
    → (checkpoint_at ks log lsn ≡ some k) ↔ Highest (λ (d : Checkpoint). d.lsn) (λ d. same_id log d.log && leb d.lsn lsn) ks.rows k
checkpoint_highest ks log lsn k f =
    first_highest checkpoint_key log_lsn log_lsn_lawful (λ (d : Checkpoint). d.lsn) (λ d. same_id log d.log && leb d.lsn lsn)
    (λ x y a b o. falls (checkpoint_key x) (checkpoint_key y) (sym (same_id_lem log x.log (and_fst (same_id log x.log) (leb x.lsn lsn) a)) ∙ same_id_lem log y.log (and_fst (same_id log y.log) (leb y.lsn lsn) b)) o)
    ks.rows (formed_parts checkpoint_key log_lsn log_lsn_lawful checkpoint_form ks f).up k

-- T3: search's entry of a page in a range
pub entry_highest : (es : Table Entry) (r : Range) (p : ℕ) (e : Entry) → index_formed es ≡ true → (first (entry_in r p) es.rows ≡ some e) ↔ Highest (λ (d : Entry). d.lsn) (entry_in r p) es.rows e
entry_highest es r p e f =
    first_highest entry_key log_page_lsn log_page_lsn_lawful (λ (d : Entry). d.lsn) (entry_in r p)
    (λ x y a b o. let u = entry_in_lem r p x a in let v = entry_in_lem r p y b in falls_page (entry_key x) (entry_key y) (sym u.log ∙ v.log) (sym u.page ∙ v.page) o)
    es.rows (formed_parts entry_key log_page_lsn log_page_lsn_lawful entry_form es f).up e

-- T3: the commits of a range, by any test
pub range_highest : (cs : Table Commit) (r : Range) (f : Commit → Bool) (c : Commit) → commits_formed cs ≡ true
    → (first f (those (in_range r) cs.rows) ≡ some c) ↔ Highest (λ (d : Commit). d.lsn) (λ d. in_range r d && f d) cs.rows c
range_highest cs r f c k =
    let h = first_highest commit_key log_lsn log_lsn_lawful (λ (d : Commit). d.lsn) (λ d. in_range r d && f d)
    (λ x y a b o. falls (commit_key x) (commit_key y) (sym (in_range_lem r x (and_fst (in_range r x) (f x) a)).log ∙ (in_range_lem r y (and_fst (in_range r y) (f y) b)).log) o)
    cs.rows (formed_parts commit_key log_lsn log_lsn_lawful commit_form cs k).up c in
    let s = first_those f (in_range r) cs.rows in
    (λ e. h.0 (sym s ∙ e), λ q. s ∙ h.1 q)
