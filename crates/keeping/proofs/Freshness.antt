-- Two zero bytes are a count of 0, so a table that begins with them is formed and holds no record, and an index without entries lists exactly the pages of no commits.
use Rattle.std.proofs.Common.{◌≡◌, ℕ, ◌≤◌, Bool, true, false, leb, List, [], ◌∷◌, map, length, take, drop, sym, ap, ◌∙◌, arith, length-drop, length-take, le-leb}
use Rattle.octets.specs.Bytes.{be, part}
use Rattle.table.specs.Records.{rises}
use Rattle.table.specs.Table.{runs, count_of, cap_of, recs, well_ordered}
use Rattle.basics.specs.Orders.{log_lsn, log_page_lsn}
use Rattle.rules.specs.Lists.{all, first, is_some}
use Rattle.rules.specs.Records.{Commit, Entry, commit_key, entry_key}
use Rattle.rules.specs.Tables.{get, get_commit}
use Rattle.rules.specs.Demand.{listed, holds_at, Exact}
use Rattle.rules.proofs.TableLaws.{and_both}
use Rattle.layout.specs.Codecs.{Codec, in_form}
use Rattle.layout.specs.Records.{commit_bytes, entry_bytes}
use Rattle.layout.specs.Tables.{formed_in, table_in, commits_in, index_in}
use Rattle.arguments.specs.declared.Reply.{Reply}
use Rattle.arguments.specs.Replies.{given}
use Rattle.boundary.specs.Tables.{formed_reply}
use Rattle.keeping.specs.Stays.{Fresh}

module _ (t : List ℕ) (fresh : Fresh t) where
  none_counted : count_of t ≡ 0
  unfolding count_of be
  none_counted = ap be fresh

  long : 2 ≤ length t
  unfolding part
  long =
      let n : length (take 2 (drop 0 t)) ≡ 2 = ap length fresh in
      omega (arith, n, length-take 2 (drop 0 t), length-drop 0 t)

  no_records : (s : ℕ) → recs s t ≡ []
  unfolding recs runs
  no_records s = ap (λ (n : ℕ). runs n s 2 t) none_counted

  module _ {R : Type 0} (c : Codec R) where
    no_rows : (table_in c t).rows ≡ []
    unfolding table_in
    no_rows = ap (map c.read) (no_records c.size)

    is_formed : (k : ℕ) (form : R → Bool) → formed_in c k form t ≡ true
    unfolding formed_in well_ordered all
    is_formed k form =
        and_both (and_both (le-leb 2 (length t) long) (and_both (ap (λ (n : ℕ). leb n (cap_of c.size t)) none_counted ∙ le-leb 0 (cap_of c.size t) (omega arith)) (ap (rises k) (no_records c.size)))) (ap (all (in_form c form)) (no_records c.size))

-- so the check behind 20 passes
pub passes : {R : Type 0} (c : Codec R) (k : ℕ) (form : R → Bool) (t : List ℕ) (r : Reply) → r ≡ formed_reply (formed_in c k form t) → Fresh t → r ≡ given
passes c k form t r e fresh = e ∙ ap formed_reply (is_formed t fresh c k form)

pub is_exact : (cs es : List ℕ) → Fresh cs → Fresh es → Exact (commits_in cs) (index_in es)
unfolding get first
is_exact cs es f g log p lsn =
    let a : listed (index_in es) log p lsn ≡ false = ap (λ (l : List Entry). is_some (get entry_key log_page_lsn (log, (p, lsn)) l)) (no_rows es g entry_bytes) in
    let b : holds_at p (get_commit (commits_in cs) log lsn) ≡ false = ap (λ (l : List Commit). holds_at p (get commit_key log_lsn (log, lsn) l)) (no_rows cs f commit_bytes) in
    a ∙ sym b
