-- The commits of a range: they stand in one run of rows, so their bytes are one part of the table's bytes, and their LSNs are put one after another. Assumes nothing.
use Rattle.std.proofs.Common.{◌≡◌, ℕ, ◌+◌, ◌-◌, ◌*◌, ◌/◌, ◌<◌, ◌≤◌, Bool, true, false, leb, List, [], ◌∷◌, ◌++◌, map, length, take, drop, sym, refl, ap, ◌∙◌, subst, ap₂, le_refl, arith, drop-drop, take-add}
use lib.ListN.{length-map}
use Rattle.octets.specs.Bytes.{bytes_of, part, put}
use Rattle.octets.specs.Flat.{flat}
use Rattle.octets.proofs.Numbers.{length_bytes_of}
use Rattle.basics.specs.Answers.{Answer, refused, done, ask, ◌>>◌}
use Rattle.rules.specs.Records.{Commit, Range}
use Rattle.rules.specs.Arguments.{range_lsns, range_order}
use Rattle.rules.specs.Reads.{lsns_in, stored_lsns}
use Rattle.rules.proofs.TableLaws.{map-append}
use Rattle.table.specs.Table.{count_of}
use Rattle.table.proofs.Rows.{cap_small}
use Rattle.table.proofs.Checks.{well_count}
use Rattle.layout.specs.Codecs.{number}
use Rattle.layout.specs.Records.{commit_bytes}
use Rattle.layout.specs.Tables.{commits_in, commits_ok}
use Rattle.layout.specs.Lent.{lent}
use Rattle.layout.proofs.LentLaws.{lent_yes}
use Rattle.rows.specs.Lookups.{stretch}
use Rattle.rows.proofs.Rows.{formed_well, formed_rules}
use Rattle.rows.proofs.Finds.{stretch_end, rows_from}
use Rattle.rows.proofs.Tables.{commits}
use Rattle.commits.specs.Places.{commit_at, RunOfRange}
use Rattle.arguments.specs.Replies.{none_under, given}
use Rattle.resultlists.specs.Lists.{slots_in, list_left}
use Rattle.resultlists.proofs.EntryLaws.{Listed, none_listed, one_listed}
use Rattle.resultlists.proofs.AnswerLaws.{left_refused, left_put, room_none, room_there}
use Rattle.resultlists.proofs.RowLaws.{rows_bytes, rows_number, rows_inside}
use Rattle.listcalls.specs.Runs.{range_commits, StandsAt}

-- a run that ends where it begins, for one that ends before
pub places_none : (t : List ℕ) (r : Range) (from to : ℕ) → RunOfRange t r from to → to ≤ from → StandsAt t r from from
places_none t r from to run h =
    record {
      below = le_refl from;
      inside = run.places.inside.0;
      commits = stretch_end from from (commits_in t).rows (le_refl from) ∙ sym (stretch_end from to (commits_in t).rows h) ∙ run.commits;
    }

-- one row more
stretch_more : {A : Type 0} (i j : ℕ) (l : List A) (x : A) → i ≤ j → drop j l ≡ x ∷ drop (j + 1) l → stretch i (j + 1) l ≡ stretch i j l ++ (x ∷ [])
stretch_more i j l x h e =
    let n : j + 1 - i ≡ j - i + 1 = omega arith in
    let m : i + (j - i) ≡ j = omega arith in
    ap (λ (k : ℕ). take k (drop i l)) n
    ∙ take-add (j - i) 1 (drop i l)
    ∙ ap (λ (r : List _). take (j - i) (drop i l) ++ take 1 r) (drop-drop (j - i) i l ∙ ap (λ (k : ℕ). drop k l) m ∙ e)

-- ---- the loop that puts LSNs

module _ (t : List ℕ) where
  -- those of the rows from one place up to another
  abbrev pub lsns : ℕ → ℕ → List ℕ
  lsns i j = map (λ (c : Commit). c.lsn) (stretch i j (commits_in t).rows)

module _ (t : List ℕ) (ok : commits_ok t ≡ true) (from to : ℕ) (was : List ℕ) where
  lsns_number : (i : ℕ) → from ≤ i → i ≤ count_of t → length (lsns t from i) ≡ i - from
  lsns_number i a b = length-map (stretch from i (commits_in t).rows) (λ (c : Commit). c.lsn) ∙ rows_number commits t ok from i a b

  -- none yet
  pub lsns_none : Listed (number 8) 8 was (lsns t from from) was
  lsns_none = subst (λ (l : List Commit). Listed (number 8) 8 was (map (λ (c : Commit). c.lsn) l) was) (sym (stretch_end from from (commits_in t).rows (le_refl from))) (none_listed (number 8) 8 was)

  -- a turn
  pub lsns_turn : (i : ℕ) (s u : List ℕ) (x : ℕ) → from ≤ i → i < to → to ≤ count_of t → (to - from) * 8 ≤ length was → Listed (number 8) 8 was (lsns t from i) s → x ≡ (commit_at t i).lsn → u ≡ put ((i - from) * 8) (bytes_of 8 x) s
      → Listed (number 8) 8 was (lsns t from (i + 1)) u
  lsns_turn i s u x a b h room w e p =
      let k = lsns_number i a (omega arith) in
      let l = stretch from i (commits_in t).rows in
      let y = (commit_at t i).lsn in
      let q : u ≡ put (length (lsns t from i) * 8) (bytes_of 8 y) s = p ∙ ap₂ (λ (n m : ℕ). put (n * 8) (bytes_of 8 m) s) (sym k) e in
      let more = ap (map (λ (c : Commit). c.lsn)) (stretch_more from i (commits_in t).rows (commit_at t i) a (rows_from commits t i (omega arith))) ∙ map-append (λ (c : Commit). c.lsn) l (commit_at t i ∷ []) in
      subst (λ (r : List ℕ). Listed (number 8) 8 was r u) (sym more) (one_listed (number 8) 8 was (lsns t from i) y s u w (length_bytes_of 8 y) (omega arith) q)

-- ---- a run's bytes and its length

module _ (t : List ℕ) (ok : commits_ok t ≡ true) (r : Range) (from to : ℕ) (w : StandsAt t r from to) where
  pub run_number : to - from ≡ length (range_commits t r)
  run_number = sym (rows_number commits t ok from to w.below w.inside) ∙ ap length w.commits

  pub run_bytes : part (2 + from * 722) ((to - from) * 722) t ≡ flat commit_bytes.spell (range_commits t r)
  run_bytes = sym (rows_bytes commits t ok from to w.below w.inside) ∙ ap (flat commit_bytes.spell) w.commits

  pub run_inside : 2 + from * 722 + (to - from) * 722 ≤ length t
  run_inside = rows_inside commits t ok from to w.below w.inside

  pub run_few : to - from ≤ 65535
  run_few = omega (arith, w.inside, cap_small 722 (count_of t) t (well_count 722 25 t (formed_well commits t ok)))

-- ---- the rule of stored LSNs, test by test

module _ (t : List ℕ) (ok : commits_ok t ≡ true) (slots : ℕ) (r : Range) where
  abbrev room : Answer (List ℕ)
  room = ask (leb (length (lsns_in (commits_in t) r)) slots) 19 >> done (lsns_in (commits_in t) r)

  abbrev chain : Bool → Bool → Answer (List ℕ)
  chain a b = ask a 1 >> (ask b 2 >> room)

  past_20 : (a b : Bool) → range_lsns r ≡ a → range_order r ≡ b → lent (commits_ok t) (stored_lsns (commits_in t) slots r) ≡ chain a b
  unfolding stored_lsns
  past_20 a b e f =
      lent_yes (commits_ok t) (stored_lsns (commits_in t) slots r) ok
      ∙ ap (λ (x : Bool). ask x 20 >> chain (range_lsns r) (range_order r)) (formed_rules commits t ok)
      ∙ ap₂ chain e f

  pub stored_1 : range_lsns r ≡ false → lent (commits_ok t) (stored_lsns (commits_in t) slots r) ≡ refused 1
  stored_1 e = past_20 false (range_order r) e refl

  pub stored_2 : range_lsns r ≡ true → range_order r ≡ false → lent (commits_ok t) (stored_lsns (commits_in t) slots r) ≡ refused 2
  stored_2 e f = past_20 true false e f

  stored_room : range_lsns r ≡ true → range_order r ≡ true → lent (commits_ok t) (stored_lsns (commits_in t) slots r) ≡ room
  stored_room e f = past_20 true true e f

-- ---- and its ends, where the range's commits stand from one place up to another

module _ (t : List ℕ) (ok : commits_ok t ≡ true) (r : Range) (from to : ℕ) (w : StandsAt t r from to) (a : range_lsns r ≡ true) (b : range_order r ≡ true) (was : List ℕ) (items : ℕ) where
  abbrev answer : Answer (List ℕ)
  answer = lent (commits_ok t) (stored_lsns (commits_in t) (slots_in (number 8) was) r)

  lsns_are : lsns t from to ≡ lsns_in (commits_in t) r
  lsns_are = ap (map (λ (c : Commit). c.lsn)) w.commits

  lsns_count : to - from ≡ length (lsns_in (commits_in t) r)
  lsns_count = run_number t ok r from to w ∙ sym (length-map (range_commits t r) (λ (c : Commit). c.lsn))

  -- too short
  pub stored_short : length was / 8 < to - from → (none_under 19, (was, items)) ≡ list_left (number 8) was items answer
  stored_short h = left_refused (number 8) was items answer 19 (stored_room t ok (slots_in (number 8) was) r a b ∙ room_none (number 8) 8 refl was (lsns_in (commits_in t) r) (to - from) lsns_count h)

  -- put
  pub stored_put : to - from ≤ length was / 8 → (u : List ℕ) → u ≡ put 0 (flat (number 8).spell (lsns t from to)) was → (given, (u, to - from)) ≡ list_left (number 8) was items answer
  stored_put h u p =
      left_put (number 8) was items answer (lsns_in (commits_in t) r) u (to - from)
      (stored_room t ok (slots_in (number 8) was) r a b ∙ room_there (number 8) 8 refl was (lsns_in (commits_in t) r) (to - from) lsns_count h)
      (p ∙ ap (λ (l : List ℕ). put 0 (flat (number 8).spell l) was) lsns_are)
      lsns_count
