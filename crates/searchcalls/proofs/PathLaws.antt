-- The search over a path. In a range the first index entry of the page decides, and it is of the range's log, so its LSN alone says where its commit stands; without one, the ranges
-- that are left decide. The loop's invariant is that the whole path answers what the ranges from i on answer.
use Rattle.std.proofs.Common.{◌≡◌, ℕ, ◌+◌, ◌*◌, ◌<◌, ◌≤◌, true, List, map, length, get_or, take, drop, sym, refl, ap, ◌∙◌, subst, ap₂, add-one, arith, drop_of_length-le, length-take, drop-cons, get_or-take, Option as Maybe, Some, None, Result, Ok, Err}
use mathlib.Core.Option.{Option, none, some}
use Rattle.octets.specs.Bytes.{part}
use Rattle.basics.specs.Answers.{Answer, done, need, ◌>>=◌}
use Rattle.basics.specs.Refusals.{number_of}
use Rattle.basics.specs.declared.refusal.Refusal.{Refusal}
use Rattle.basics.specs.declared.refusal.Refusal.TheVariants as Refusal
use Rattle.rules.specs.Lists.{first}
use Rattle.rules.specs.Records.{Id, Commit, Entry, Range}
use Rattle.rules.specs.Tables.{Table, get_commit}
use Rattle.rules.specs.Search.{entry_in, found_by, search_path}
use Rattle.rules.proofs.TableLaws.{options, missing, first_some}
use Rattle.rules.proofs.Facts.{entry_in_lem}
use Rattle.table.specs.Table.{count_of}
use Rattle.layout.specs.Records.{commit_bytes}
use Rattle.layout.specs.Tables.{commits_in, commits_ok}
use Rattle.rows.proofs.Checks.{row_spelled}
use Rattle.rows.proofs.Tables.{commits}
use Rattle.volume.specs.Snapshots.{range_says}
use Rattle.volume.specs.declared.snapshot.LogRange.{LogRange}
use Rattle.lookups.specs.Found.{entry_lsn}
use Rattle.commits.specs.Places.{PlaceOf}
use Rattle.commits.proofs.LookLaws.{place_at_lem, place_missing}
use Rattle.arguments.specs.Replies.{given, none_under, value_or}
use Rattle.searchcalls.specs.Searches.{entry_commit, hit_says, HitOf}

-- ---- the commit that an entry names

module _ (t : List ℕ) (log : Id) (lsn : ℕ) (p : Maybe ℕ) (h : PlaceOf t (get_commit (commits_in t) log lsn) p) where
  pub stored : (i : ℕ) → p ≡ Some i → HitOf t (entry_commit (commits_in t) log lsn) (Ok (Some i))
  stored i e =
      let w = place_at_lem t (get_commit (commits_in t) log lsn) p h i e in
      record { says = ap (λ (o : Option Commit). need o 21 >>= (λ c. done (some c))) w.0; inside = w.1 }

  pub unstored : p ≡ None → HitOf t (entry_commit (commits_in t) log lsn) (Err Refusal.NoCommit)
  unstored e = record { says = ap (λ (o : Option Commit). need o 21 >>= (λ c. done (some c))) (place_missing t (get_commit (commits_in t) log lsn) p h e); inside = tt }

-- ---- one range

module _ (cs : Table Commit) (es : Table Entry) (r : Range) (p : ℕ) (later : Answer (Option Commit)) where
  -- it has an entry, whose commit decides
  has_entry : (lsn : ℕ) → some lsn ≡ entry_lsn (first (entry_in r p) es.rows) → entry_commit cs r.log lsn ≡ found_by cs (first (entry_in r p) es.rows) later
  has_entry lsn h =
      options (first (entry_in r p) es.rows)
      (λ n. absurd (missing refl (sym (h ∙ ap entry_lsn n))))
      (λ e n.
      let s : r.log ≡ e.log = (entry_in_lem r p e (first_some (entry_in r p) es.rows n).1).log in
      let l : lsn ≡ e.lsn = cc (h ∙ ap entry_lsn n) in
      ap₂ (entry_commit cs) s l ∙ ap (λ (o : Option Entry). found_by cs o later) (sym n))

  -- it has none
  no_entry : none ≡ entry_lsn (first (entry_in r p) es.rows) → found_by cs (first (entry_in r p) es.rows) later ≡ later
  no_entry h =
      options (first (entry_in r p) es.rows)
      (λ n. ap (λ (o : Option Entry). found_by cs o later) n)
      (λ e n. absurd (missing refl (h ∙ ap entry_lsn n)))

-- ---- the ranges that are left

module _ (cs : Table Commit) (es : Table Entry) (p : ℕ) (xs : List LogRange) (n : ℕ) where
  -- what the ranges from i on answer
  abbrev pub from : ℕ → Answer (Option Commit)
  from i = search_path cs es p (map range_says (drop i (take n xs)))

  module _ (i : ℕ) (h : i < n) (k : i < length xs) (d : LogRange) where
    turn : from i ≡ found_by cs (first (entry_in (range_says (get_or xs i d)) p) es.rows) (from (i + 1))
    turn =
        let l : i < length (take n xs) = simp length-take (omega arith) in
        rw (add-one i, ← get_or-take n xs i d h) (ap (λ (ys : List LogRange). search_path cs es p (map range_says ys)) (drop-cons (take n xs) i d l))

    -- the range at i decides
    pub decides : (t : List ℕ) (lsn : ℕ) (hit : Result (Maybe ℕ) Refusal) → some lsn ≡ entry_lsn (first (entry_in (range_says (get_or xs i d)) p) es.rows) → from 0 ≡ from i
        → HitOf t (entry_commit cs (get_or xs i d).log lsn) hit → HitOf t (from 0) hit
    decides t lsn hit e inv w =
        subst (λ (q : Answer (Option Commit)). HitOf t q hit) (has_entry cs es (range_says (get_or xs i d)) p (from (i + 1)) lsn e ∙ sym turn ∙ sym inv) w

    -- the ranges behind it do
    pub goes_on : none ≡ entry_lsn (first (entry_in (range_says (get_or xs i d)) p) es.rows) → from i ≡ from (i + 1)
    goes_on e = turn ∙ no_entry cs es (range_says (get_or xs i d)) p (from (i + 1)) e

  -- none is left
  pub none_left : (i : ℕ) → n ≤ i → done none ≡ from i
  none_left i h =
      let l : length (take n xs) ≤ i = simp length-take (omega arith) in
      rw (drop_of_length-le (take n xs) l)

-- ---- what was found, put into the lent place

module _ (t out : List ℕ) (h : Result (Maybe ℕ) Refusal) where
  pub put_at : commits_ok t ≡ true → (i at : ℕ) (after : List ℕ) → h ≡ Ok (Some i) → i < count_of t → at ≡ 2 + i * 722 → length out ≡ 722 → after ≡ part at (length out) t
      → (given, after) ≡ value_or commit_bytes.spell out (hit_says t h)
  put_at f i at after e l q w z =
      ap (λ (b : List ℕ). (given, b)) (z ∙ ap₂ (λ (a n : ℕ). part a n t) q w ∙ sym (row_spelled commits t f i l))
      ∙ ap (λ (x : Result (Maybe ℕ) Refusal). value_or commit_bytes.spell out (hit_says t x)) (sym e)

  pub put_nothing : h ≡ Ok None → (none_under 0, out) ≡ value_or commit_bytes.spell out (hit_says t h)
  put_nothing e = ap (λ (x : Result (Maybe ℕ) Refusal). value_or commit_bytes.spell out (hit_says t x)) (sym e)

  pub put_refused : (r : Refusal) → h ≡ Err r → (none_under (number_of r), out) ≡ value_or commit_bytes.spell out (hit_says t h)
  put_refused r e = ap (λ (x : Result (Maybe ℕ) Refusal). value_or commit_bytes.spell out (hit_says t x)) (sym e)
