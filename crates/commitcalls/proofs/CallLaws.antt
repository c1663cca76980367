-- What the calls answer at each return. A test that the code has passed takes the rule's test away, one after another (20, then 1, then 3), and the place of the commit
-- says the value; a row of a formed table is the bytes of the commit that it spells, so a copy of the row is the answer's bytes.
use Rattle.std.proofs.Common.{◌≡◌, ℕ, ◌+◌, ◌*◌, ◌<◌, Bool, true, false, eqb, List, length, sym, refl, ap, ◌∙◌, subst, ap₂, arith, le-ltb, lt-ltb, eq-eqb, ne_eqb, Option as Maybe, Some, None}
use mathlib.Core.Option.{Option, none, some, map}
use Rattle.octets.specs.Bytes.{part}
use Rattle.basics.specs.Answers.{Answer, refused, done, ask, ◌>>◌}
use Rattle.basics.specs.Numbers.{counts}
use Rattle.rules.specs.Records.{Id, Commit}
use Rattle.rules.specs.Tables.{commits_formed, get_commit, latest, latest_lsn}
use Rattle.rules.specs.Reads.{commit_read, latest_lsn_read, latest_commit_read, page_count_read}
use Rattle.table.specs.Table.{count_of}
use Rattle.layout.specs.Codecs.{Codec}
use Rattle.layout.specs.Records.{commit_bytes}
use Rattle.layout.specs.Tables.{commits_in, commits_ok}
use Rattle.layout.specs.Lent.{lent, sized}
use Rattle.layout.proofs.LentLaws.{past_20}
use Rattle.rows.proofs.Rows.{formed_rules}
use Rattle.rows.proofs.Checks.{row_spelled}
use Rattle.rows.proofs.Tables.{commits}
use Rattle.commits.specs.Places.{commit_at, place_says}
use Rattle.commitcalls.specs.Says.{Answered}

-- ---- the tests, in their order

module _ (t : List ℕ) (f : commits_ok t ≡ true) where
  by_rest : {A : Type 0} (answer : Answer A) → lent (commits_ok t) (ask (commits_formed (commits_in t)) 20 >> answer) ≡ answer
  by_rest answer = past_20 (commits_ok t) (commits_formed (commits_in t)) answer f (formed_rules commits t f)

  module _ (log : Id) where
    pub latest_lsn_done : lent (commits_ok t) (latest_lsn_read (commits_in t) log) ≡ done (latest_lsn (commits_in t) log)
    unfolding latest_lsn_read
    latest_lsn_done = by_rest (done (latest_lsn (commits_in t) log))

    pub latest_commit_done : lent (commits_ok t) (latest_commit_read (commits_in t) log) ≡ done (latest (commits_in t) log)
    unfolding latest_commit_read
    latest_commit_done = by_rest (done (latest (commits_in t) log))

    module _ (lsn : ℕ) where
      -- 1
      zero_lsn : {A : Type 0} (answer : Answer A) → lsn ≡ 0 → (ask (counts lsn) 1 >> answer) ≡ refused 1
      zero_lsn answer z = ap (λ (b : Bool). ask b 1 >> answer) (le-ltb 0 lsn (omega arith))

      past_1 : {A : Type 0} (answer : Answer A) → (lsn ≡ 0 → ⊥) → (ask (counts lsn) 1 >> answer) ≡ answer
      past_1 answer z = ap (λ (b : Bool). ask b 1 >> answer) (lt-ltb 0 lsn (omega arith))

      pub page_count_zero : lsn ≡ 0 → lent (commits_ok t) (page_count_read (commits_in t) log lsn) ≡ refused 1
      unfolding page_count_read
      page_count_zero z = by_rest (ask (counts lsn) 1 >> rest) ∙ zero_lsn rest z
        where
          rest : Answer (Option ℕ)
          rest = done (map (λ (c : Commit). c.count) (get_commit (commits_in t) log lsn))

      pub page_count_done : (lsn ≡ 0 → ⊥) → lent (commits_ok t) (page_count_read (commits_in t) log lsn) ≡ done (map (λ (c : Commit). c.count) (get_commit (commits_in t) log lsn))
      unfolding page_count_read
      page_count_done z = by_rest (ask (counts lsn) 1 >> rest) ∙ past_1 rest z
        where
          rest : Answer (Option ℕ)
          rest = done (map (λ (c : Commit). c.count) (get_commit (commits_in t) log lsn))

      pub commit_read_zero : lsn ≡ 0 → lent (commits_ok t) (commit_read (commits_in t) log lsn) ≡ refused 1
      unfolding commit_read
      commit_read_zero z = by_rest (ask (counts lsn) 1 >> done (get_commit (commits_in t) log lsn)) ∙ zero_lsn (done (get_commit (commits_in t) log lsn)) z

      pub commit_read_done : (lsn ≡ 0 → ⊥) → lent (commits_ok t) (commit_read (commits_in t) log lsn) ≡ done (get_commit (commits_in t) log lsn)
      unfolding commit_read
      commit_read_done z = by_rest (ask (counts lsn) 1 >> done (get_commit (commits_in t) log lsn)) ∙ past_1 (done (get_commit (commits_in t) log lsn)) z

-- ---- a field of the commit that was found

module _ (field : Commit → ℕ) {o : Option Commit} (answer : Answer (Option ℕ)) (e : answer ≡ done (map field o)) where
  pub field_found : (x : Commit) (n : ℕ) → some x ≡ o → n ≡ field x → done (some n) ≡ answer
  field_found x n h g = ap (λ (m : ℕ). done (some m)) g ∙ ap (λ (y : Option Commit). done (map field y)) h ∙ sym e

  pub field_missing : none ≡ o → done none ≡ answer
  field_missing h = ap (λ (y : Option Commit). done (map field y)) h ∙ sym e

-- ---- a record to lent bytes

module _ {R : Type 0} (c : Codec R) (out : List ℕ) (size : ℕ) where
  -- a number before 3
  pub refused_before : (answer : Answer (Option R)) (n : ℕ) → answer ≡ refused n → Answered c (sized size out answer) (refused n) out out
  refused_before answer n e = subst (λ (a : Answer (Option R)). Answered c (sized size out a) (refused n) out out) (sym e) (record { says = refl; bytes = refl })

  -- what comes behind the numbers before 3
  asked : (answer : Answer (Option R)) (o : Option R) → answer ≡ done o → sized size out answer ≡ (ask (eqb (length out) size) 3 >> done o)
  asked answer o e = ap (sized size out) e

  -- 3
  pub refused_3 : (answer : Answer (Option R)) (o : Option R) → answer ≡ done o → (length out ≡ size → ⊥) → Answered c (sized size out answer) (refused 3) out out
  refused_3 answer o e h =
      let q : sized size out answer ≡ refused 3 = asked answer o e ∙ ap (λ (b : Bool). ask b 3 >> done o) (ne_eqb (length out) size h) in
      subst (λ (a : Answer (Option R)). Answered c a (refused 3) out out) (sym q) (record { says = refl; bytes = refl })

  -- the record or nothing
  pub answered : (answer : Answer (Option R)) (o : Option R) (p : Option R) (found : Answer Bool) (after : List ℕ) → answer ≡ done o → length out ≡ size → p ≡ o
      → Answered c (done p) found out after → Answered c (sized size out answer) found out after
  answered answer o p found after e h q w =
      let z : sized size out answer ≡ done o = asked answer o e ∙ ap (λ (b : Bool). ask b 3 >> done o) (eq-eqb (length out) size h) in
      subst (λ (a : Answer (Option R)). Answered c a found out after) (ap done q ∙ sym z) w

module _ (t : List ℕ) (f : commits_ok t ≡ true) (p : Maybe ℕ) (out : List ℕ) where
  -- the row of the place, copied
  pub copied : (i at : ℕ) (after : List ℕ) → p ≡ Some i → i < count_of t → at ≡ 2 + i * 722 → length out ≡ 722 → after ≡ part at (length out) t
      → Answered commit_bytes (done (place_says t p)) (done true) out after
  copied i at after e l q h w =
      let z : after ≡ commit_bytes.spell (commit_at t i) = w ∙ ap₂ (λ (a n : ℕ). part a n t) q h ∙ sym (row_spelled commits t f i l) in
      subst (λ (x : Maybe ℕ). Answered commit_bytes (done (place_says t x)) (done true) out after) (sym e) (record { says = refl; bytes = z })

  -- nothing to copy
  pub nothing : p ≡ None → Answered commit_bytes (done (place_says t p)) (done false) out out
  nothing e = subst (λ (x : Maybe ℕ). Answered commit_bytes (done (place_says t x)) (done false) out out) (sym e) (record { says = refl; bytes = refl })
