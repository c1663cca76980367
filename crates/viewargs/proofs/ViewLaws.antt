-- The call by value has 20, 4 or a snapshot of at most two ranges; the length of the lent place stands between, so that of another length 20 stays and all else is 3. The check by value has the numbers of the value that the bytes
-- spell, which is always in form; where the bytes are not, 3 stands for all that comes after 2.
use Rattle.std.proofs.Common.{◌≡◌, ℕ, ◌≤◌, Bool, true, false, ◌&&◌, eqb, List, length, sym, refl, ap, ◌∙◌, arith, eq-eqb, ne_eqb, le-leb, Result}
use mathlib.Core.Option.{Option, none, some}
use Rattle.basics.specs.Answers.{Answer, refused, done, code, ask, need, ◌>>◌, ◌>>=◌}
use Rattle.basics.specs.Refusals.{code_of}
use Rattle.basics.specs.declared.refusal.Refusal.{Refusal}
use Rattle.rules.specs.Records.{Id, Commit, Volume, Snapshot}
use Rattle.rules.specs.Tables.{Table, get_volume, volumes_formed, commits_formed}
use Rattle.rules.specs.Arguments.{snapshot_lsns, snapshot_order, snapshot_form}
use Rattle.rules.specs.Snapshots.{snapshot_of, snapshot, is_latest, latest_check}
use Rattle.rules.proofs.TableLaws.{cases, and_fst, and_snd}
use Rattle.rules.proofs.Facts.{few_ranges}
use Rattle.layout.specs.Values.{snapshot_bytes}
use Rattle.layout.specs.Tables.{volumes_in, volumes_ok, commits_in, commits_ok}
use Rattle.layout.specs.Lent.{lent}
use Rattle.layout.proofs.LentLaws.{lent_no, lent_yes}
use Rattle.volume.specs.declared.snapshot.Snapshot as declared
use Rattle.volume.specs.Snapshots.{answer_form, answer_says, laid, laid_answer}
use Rattle.volume.proofs.SnapshotLaws.{laid_says}
use Rattle.viewcalls.specs.Checks.{checked}
use Rattle.viewcalls.proofs.Ends.{formed}
use Rattle.viewcalls.proofs.CheckLaws.{checked_rule}
use Rattle.arguments.specs.declared.Reply.{Reply}
use Rattle.arguments.specs.Replies.{none_under, value, placed}
use Rattle.arguments.specs.Snapshots.{snapshot_in, snapshot_formed, snapshot_left, snapshot_put}
use Rattle.arguments.proofs.SnapshotLaws.{snapshot_size, laid_formed, in_few, put_whole, left_snapshot, answer_formed, laid_code}
use Rattle.viewargs.specs.Views.{latest_in, misplaced, unformed}

-- ---- past 20 a snapshot's rule has 4, or a snapshot

abbrev Seen : Answer Snapshot → Type 0
Seen (refused n) = n ≡ 4
Seen (done s) = length s.path ≤ 8

seen_by : (cs : Table Commit) (o : Option Volume) → Seen (need o 4 >>= (λ v. done (snapshot_of cs v)))
seen_by cs none = refl
seen_by cs (some v) = few_ranges cs v

pub seen : (t u : List ℕ) (vid : Id) → (volumes_ok t && commits_ok u) ≡ true → Seen (snapshot (volumes_in t) (commits_in u) vid)
unfolding snapshot
seen t u vid ok =
    let f = formed t u vid (and_fst (volumes_ok t) (commits_ok u) ok) (and_snd (volumes_ok t) (commits_ok u) ok) in
    rw f (seen_by (commits_in u) (get_volume (volumes_in t) vid))

-- ---- a snapshot to a lent place

abbrev left : List ℕ → Answer Snapshot → Reply × List ℕ
left was q = value snapshot_bytes.spell was q

abbrev asked : List ℕ → Answer Snapshot → Answer Snapshot
asked was q = placed snapshot_bytes.size was q

module _ (was : List ℕ) (q : Answer Snapshot) where
  placed_by : (b : Bool) → eqb (length was) 262 ≡ b → asked was q ≡ (ask b 3 >> q)
  unfolding placed
  placed_by b e = ap (λ (x : Bool). ask x 3 >> q) (ap (eqb (length was)) snapshot_size ∙ e)

  placed_no : (length was ≡ 262 → ⊥) → asked was q ≡ refused 3
  placed_no h = placed_by false (ne_eqb (length was) 262 h)

  placed_yes : length was ≡ 262 → asked was q ≡ q
  placed_yes h = placed_by true (eq-eqb (length was) 262 h)

-- 20, else 3
three : (was : List ℕ) (ok : Bool) (q : Answer Snapshot) → (ok ≡ true → Seen q) → (length was ≡ 262 → ⊥) → (none_under (misplaced (code (lent ok q))), was) ≡ left was (lent ok (asked was q))
unfolding lent
three was false q past h = refl
three was true (refused k) past h = ap (λ (m : ℕ). (none_under (misplaced m), was)) (past refl) ∙ ap (left was) (sym (placed_no was (refused k) h))
three was true (done s) past h = ap (left was) (sym (placed_no was (done s) h))

-- what is answered by value is in form
shaped : (a : Result declared.Snapshot Refusal) (ok : Bool) (q : Answer Snapshot) → (ok ≡ true → Seen q) → answer_says a ≡ laid_answer (lent ok q) → answer_form a ≡ true
unfolding lent
shaped a false q past e = answer_formed a (refused 20) tt e
shaped a true (refused n) past e = answer_formed a (refused n) tt e
shaped a true (done s) past e = answer_formed a (done s) (past refl) e

-- a place of the snapshot's length is given the answer as it is
same_left : (was : List ℕ) → length was ≡ 262 → (q : Answer Snapshot) → snapshot_left was q ≡ left was q
same_left was h (refused n) = refl
same_left was h (done s) = sym (put_whole was s h)

-- ---- the call that is lent volumes and commits

module _ (t u : List ℕ) (vid : Id) (was : List ℕ) (a : Result declared.Snapshot Refusal) (e : answer_says a ≡ laid_answer (lent (volumes_ok t && commits_ok u) (snapshot (volumes_in t) (commits_in u) vid))) where
  abbrev ok : Bool
  ok = volumes_ok t && commits_ok u

  abbrev rule : Answer Snapshot
  rule = snapshot (volumes_in t) (commits_in u) vid

  pub not_placed : (length was ≡ 262 → ⊥) → (none_under (misplaced (code_of a)), was) ≡ left was (lent ok (asked was rule))
  not_placed h = ap (λ (n : ℕ). (none_under (misplaced n), was)) (laid_code a (lent ok rule) e) ∙ three was ok rule (seen t u vid) h

  pub answer_shaped : answer_form a ≡ true
  answer_shaped = shaped a ok rule (seen t u vid) e

  pub answer_put : length was ≡ 262 → snapshot_put was a ≡ left was (lent ok (asked was rule))
  answer_put h = left_snapshot was a (lent ok rule) e ∙ same_left was h (lent ok rule) ∙ ap (λ (q : Answer Snapshot). left was (lent ok q)) (sym (placed_yes was rule h))

-- ---- the latest check of a snapshot in bytes

module _ (vs : Table Volume) (cs : Table Commit) (vid : Id) (b : List ℕ) where
  abbrev verdict : Answer Bool
  verdict = need (get_volume vs vid) 4 >>= (λ v. done (is_latest cs v (snapshot_in b)))

  few_form : snapshot_form (snapshot_in b) ≡ true
  unfolding snapshot_form
  few_form = le-leb (length (snapshot_in b).path) 8 (in_few b)

  module _ (f : (volumes_formed vs && commits_formed cs) ≡ true) where
    rule_is : latest_check vs cs vid (snapshot_in b) ≡ (ask (snapshot_lsns (snapshot_in b)) 1 >> (ask (snapshot_order (snapshot_in b)) 2 >> verdict))
    unfolding latest_check
    rule_is = rw (f, few_form)

    -- by value: the rule on the snapshot that the bytes spell
    value_is : checked vs cs vid (laid (snapshot_in b)) ≡ latest_check vs cs vid (snapshot_in b)
    value_is =
        checked_rule vs cs vid (laid (snapshot_in b)) f (laid_formed (snapshot_in b) (in_few b))
        ∙ ap (latest_check vs cs vid) (laid_says (snapshot_in b))

    -- bytes in form
    formed_check : snapshot_formed b ≡ true → checked vs cs vid (laid (snapshot_in b)) ≡ latest_in vs cs vid b
    unfolding latest_in
    formed_check g = rw (g, value_is, rule_is) (twice (snapshot_lsns (snapshot_in b)) (snapshot_order (snapshot_in b)) verdict)
      where
        twice : (l o : Bool) (k : Answer Bool) → (ask l 1 >> (ask o 2 >> k)) ≡ (ask l 1 >> (ask o 2 >> (ask l 1 >> (ask o 2 >> k))))
        twice false o k = refl
        twice true false k = refl
        twice true true k = refl

    -- bytes that are not
    unformed_check : snapshot_formed b ≡ false → unformed (checked vs cs vid (laid (snapshot_in b))) ≡ latest_in vs cs vid b
    unfolding latest_in
    unformed_check g = rw (g, value_is, rule_is) (stops (snapshot_lsns (snapshot_in b)) (snapshot_order (snapshot_in b)) (get_volume vs vid))
      where
        stops : (l o : Bool) (w : Option Volume) → unformed (ask l 1 >> (ask o 2 >> (need w 4 >>= (λ v. done (is_latest cs v (snapshot_in b))))))
            ≡ (ask l 1 >> (ask o 2 >> refused 3))
        stops false o w = refl
        stops true false w = refl
        stops true true none = refl
        stops true true (some v) = refl

module _ (t u : List ℕ) (vid : Id) (b : List ℕ) (s : declared.Snapshot) (x : Answer Bool) (e : s ≡ laid (snapshot_in b))
    (says : x ≡ lent (volumes_ok t && commits_ok u) (checked (volumes_in t) (commits_in u) vid s)) where
  abbrev by_value : Answer Bool
  by_value = checked (volumes_in t) (commits_in u) vid (laid (snapshot_in b))

  abbrev by_bytes : Answer Bool
  by_bytes = latest_in (volumes_in t) (commits_in u) vid b

  laid_first : x ≡ lent (volumes_ok t && commits_ok u) by_value
  laid_first = says ∙ ap (λ (z : declared.Snapshot). lent (volumes_ok t && commits_ok u) (checked (volumes_in t) (commits_in u) vid z)) e

  tables : (volumes_ok t && commits_ok u) ≡ true → (volumes_formed (volumes_in t) && commits_formed (commits_in u)) ≡ true
  tables ok = formed t u vid (and_fst (volumes_ok t) (commits_ok u) ok) (and_snd (volumes_ok t) (commits_ok u) ok)

  pub check_formed : snapshot_formed b ≡ true → x ≡ lent (volumes_ok t && commits_ok u) by_bytes
  check_formed g =
      laid_first
      ∙ cases (volumes_ok t && commits_ok u) (λ ok. ap (lent (volumes_ok t && commits_ok u)) (formed_check (volumes_in t) (commits_in u) vid b (tables ok) g))
      (λ no. lent_no (volumes_ok t && commits_ok u) by_value no ∙ sym (lent_no (volumes_ok t && commits_ok u) by_bytes no))

  pub check_unformed : snapshot_formed b ≡ false → unformed x ≡ lent (volumes_ok t && commits_ok u) by_bytes
  check_unformed g =
      ap unformed laid_first
      ∙ cases (volumes_ok t && commits_ok u)
      (λ ok. ap unformed (lent_yes (volumes_ok t && commits_ok u) by_value ok) ∙ unformed_check (volumes_in t) (commits_in u) vid b (tables ok) g ∙ sym (lent_yes (volumes_ok t && commits_ok u) by_bytes ok))
      (λ no. ap unformed (lent_no (volumes_ok t && commits_ok u) by_value no) ∙ sym (lent_no (volumes_ok t && commits_ok u) by_bytes no))
