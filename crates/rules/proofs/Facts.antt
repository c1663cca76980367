-- What the tests of the rules say, as facts, and how many ranges a volume's snapshot has.
use Rattle.std.proofs.Common.{◌≡◌, ℕ, ◌<◌, ◌≤◌, Bool, true, false, cond, ◌&&◌, eqb, leb, length, refl, ap, ◌∙◌, arith, eq-eqb, eqb-true, le-leb, leb-true}
use Prim.Native.Nat.{Ordering}
use mathlib.Core.Option.{Option, none, some}
use lib.Dec.{compare_is_eq}
use Rattle.std.proofs.Common.{Ordering as Order, Less, Equal, Greater}
use Rattle.octets.specs.Order.{lex, ordering, is_equal}
use Rattle.basics.specs.Orders.{bytes, log_lsn, log_page_lsn}
use Rattle.rules.specs.Records.{Id, Commit, Entry, Range, LogLsn, Volume}
use Rattle.rules.specs.Tables.{Table, same_id, get_commit, latest}
use Rattle.rules.specs.Walk.{in_range}
use Rattle.rules.specs.Search.{entry_in}
use Rattle.rules.specs.Snapshots.{watermark_of, remote_of, below, remote_path, remote_to, remote_snapshot, local_snapshot, snapshot_by, snapshot_of}
use Rattle.basics.proofs.OrderLaws.{equal, lt_up, bytes_lawful, up_lawful, ordering_lex}
use Rattle.rules.proofs.TableLaws.{eq_of, and_fst, and_snd, and_both}

pub same_id_lem : (a b : Id) → same_id a b ≡ true → a ≡ b
same_id_lem a b e = bytes_lawful.same a b (eq_of (bytes a b) e)

pub id_same : (a b : Id) → a ≡ b → same_id a b ≡ true
id_same a b e = ap compare_is_eq (equal bytes_lawful e)

-- the code's test of two identifiers is the rules'
pub id_is : (a b : Id) → is_equal (lex a b) ≡ same_id a b
id_is a b = is_eq (lex a b) ∙ ap compare_is_eq (ordering_lex a b)
  where
    is_eq : (o : Order) → is_equal o ≡ compare_is_eq (ordering o)
    is_eq Less = refl
    is_eq Equal = refl
    is_eq Greater = refl

-- of two keys of one log the first in the order has the higher LSN
pub falls : (k j : LogLsn) → k.0 ≡ j.0 → log_lsn k j ≡ Ordering.lt → j.1 < k.1
falls k j s e = lt_up j.1 k.1 (rw (equal bytes_lawful s) at e)

pub falls_page : (k j : Id × (ℕ × ℕ)) → k.0 ≡ j.0 → k.1.0 ≡ j.1.0 → log_page_lsn k j ≡ Ordering.lt → j.1.1 < k.1.1
falls_page k j s p e = lt_up j.1.1 k.1.1 (rw (equal bytes_lawful s, equal up_lawful p) at e)

pub record InRange (r : Range) (c : Commit) : Type 0 where
  pub log : r.log ≡ c.log
  pub start : r.start ≤ c.lsn
  pub end : c.lsn ≤ r.end

pub in_range_lem : (r : Range) (c : Commit) → in_range r c ≡ true → InRange r c
unfolding in_range
in_range_lem r c e =
    let a = same_id r.log c.log in
    let b = leb r.start c.lsn in
    let d = leb c.lsn r.end in
    let l = and_fst (a && b) d e in
    record { log = same_id_lem r.log c.log (and_fst a b l); start = leb-true r.start c.lsn (and_snd a b l); end = leb-true c.lsn r.end (and_snd (a && b) d e) }

pub range_in_lem : (r : Range) (c : Commit) → InRange r c → in_range r c ≡ true
unfolding in_range
range_in_lem r c h = and_both (and_both (id_same r.log c.log h.log) (le-leb r.start c.lsn h.start)) (le-leb c.lsn r.end h.end)

pub record EntryIn (r : Range) (p : ℕ) (e : Entry) : Type 0 where
  pub log : r.log ≡ e.log
  pub page : p ≡ e.page
  pub start : r.start ≤ e.lsn
  pub end : e.lsn ≤ r.end

pub entry_in_lem : (r : Range) (p : ℕ) (e : Entry) → entry_in r p e ≡ true → EntryIn r p e
unfolding entry_in
entry_in_lem r p e h =
    let a = same_id r.log e.log in
    let b = eqb p e.page in
    let c = leb r.start e.lsn in
    let d = leb e.lsn r.end in
    let abc = and_fst (a && b && c) d h in
    let ab = and_fst (a && b) c abc in
    record {
      log = same_id_lem r.log e.log (and_fst a b ab);
      page = eqb-true p e.page (and_snd a b ab);
      start = leb-true r.start e.lsn (and_snd (a && b) c abc);
      end = leb-true e.lsn r.end (and_snd (a && b && c) d h);
    }

pub in_entry : (r : Range) (p : ℕ) (e : Entry) → EntryIn r p e → entry_in r p e ≡ true
unfolding entry_in
in_entry r p e h =
    and_both (and_both (and_both (id_same r.log e.log h.log) (eq-eqb p e.page h.page)) (le-leb r.start e.lsn h.start)) (le-leb e.lsn r.end h.end)

-- ---- a volume's snapshot has at most two ranges, so no more than fit

module _ (cs : Table Commit) (v : Volume) where
  few_path : (o : Option ℕ) → length (remote_path v o) ≤ 1
  few_path none = omega arith
  few_path (some n) = omega arith

  few_to : (o : Option Commit) → length (remote_to v o).path ≤ 8
  few_to none = omega arith
  few_to (some c) = omega arith

  few_remote : (o : Option ℕ) → length (remote_snapshot cs v o).path ≤ 8
  few_remote none = omega arith
  few_remote (some n) = few_to (get_commit cs v.remote n)

  few_by : (o : Option Commit) → length (snapshot_by cs v o).path ≤ 8
  few_by none = few_remote (remote_of v.sync)
  few_by (some c) = go (below (watermark_of v.sync) c.lsn)
    where
      go : (b : Bool) → length (cond b (local_snapshot v c) (remote_snapshot cs v (remote_of v.sync))).path ≤ 8
      go true = omega (arith, few_path (remote_of v.sync))
      go false = few_remote (remote_of v.sync)

  pub few_ranges : length (snapshot_of cs v).path ≤ 8
  unfolding snapshot_of
  few_ranges = few_by (latest cs v.local)
