-- A log's latest commit, as the lemmas on calls use it.
use Rattle.std.proofs.Common.{◌≡◌, ◌≤◌, Bool, true, List, sym, ap, ◌∙◌, ⊎_elim, arith}
use mathlib.Core.List.{Memᴰ}
use mathlib.Core.Option.{Option, none, some}
use Rattle.basics.proofs.OrderLaws.{log_lsn_lawful}
use Rattle.basics.specs.Orders.{log_lsn}
use Rattle.rules.specs.Lists.{first}
use Rattle.rules.specs.Records.{Id, Commit, LogLsn, commit_key}
use Rattle.rules.specs.Tables.{Table, in_order, same_id, latest}
use Rattle.rules.proofs.TableLaws.{options, clash, first_some, first_none, first_least}
use Rattle.rules.proofs.Facts.{same_id_lem, id_same, falls}

-- in a table by log up and LSN down, of the records of one log that pass a test the first has the highest LSN
first_highest : {R : Type 0} (key : R → LogLsn) (f : R → Bool) (l : List R) {x y : R} → in_order key log_lsn l ≡ true → first f l ≡ some x → Memᴰ y l
    → f y ≡ true → (key x).0 ≡ (key y).0 → (key y).1 ≤ (key x).1
first_highest key f l {x} {y} up e m h s =
    ⊎_elim (λ o. omega (arith, falls (key x) (key y) s o)) (λ q. omega (arith, ap (λ z. (key z).1) q)) (first_least key log_lsn log_lsn_lawful f l up e m h)

-- c is the log's commit with the highest LSN
pub record Latest (cs : Table Commit) (log : Id) (c : Commit) : Type 0 where
  pub stored : Memᴰ c cs.rows
  pub named : log ≡ c.log
  pub highest : (d : Commit) → Memᴰ d cs.rows → log ≡ d.log → d.lsn ≤ c.lsn

pub latest_some : (cs : Table Commit) (log : Id) (c : Commit) → in_order commit_key log_lsn cs.rows ≡ true → latest cs log ≡ some c → Latest cs log c
latest_some cs log c up e =
    let s = first_some (λ (d : Commit). same_id log d.log) cs.rows e in
    let n = same_id_lem log c.log s.1 in
    record { stored = s.0; named = n; highest = λ d m h. first_highest commit_key (λ (d : Commit). same_id log d.log) cs.rows up e m (id_same log d.log h) (sym n ∙ h) }

pub latest_none : (cs : Table Commit) (log : Id) → latest cs log ≡ none → (d : Commit) → Memᴰ d cs.rows → log ≡ d.log → ⊥
latest_none cs log e d m h = clash (id_same log d.log h) (first_none (λ (d : Commit). same_id log d.log) cs.rows e m)

-- the commit of a log that has the highest LSN is its latest
pub latest_is : (cs : Table Commit) (log : Id) (c : Commit) → in_order commit_key log_lsn cs.rows ≡ true → Latest cs log c → latest cs log ≡ some c
latest_is cs log c up h =
    options (latest cs log) (λ n. absurd (latest_none cs log n c h.stored h.named))
    (λ d n. let k = latest_some cs log d up n in
    ⊎_elim (λ o. let a = falls (commit_key d) (commit_key c) (sym k.named ∙ h.named) o in let b = h.highest d k.stored k.named in absurd (omega arith)) (λ q. n ∙ ap {B = Option Commit} some q)
    (first_least commit_key log_lsn log_lsn_lawful (λ (d : Commit). same_id log d.log) cs.rows up n h.stored (id_same log c.log h.named)))
