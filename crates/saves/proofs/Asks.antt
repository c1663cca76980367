-- The LSN of a save goes by the log's latest commit. A segment is in use by what any commit names: the loop goes by the commits that are left.
use Rattle.std.proofs.Common.{◌≡◌, ℕ, ◌+◌, ◌-◌, ◌^◌, ◌<◌, ◌≤◌, Bool, true, false, ◌||◌, ltb, List, length, drop, sym, refl, ap, ◌∙◌, arith, drop_of_length-le, le-ltb, lt-ltb}
use mathlib.Core.Option.{Option, none, some, map}
use mathlib.Core.Bool.{or-true}
use Rattle.basics.specs.Answers.{Answer, refused, done, ask, ◌>>◌}
use Rattle.basics.specs.Numbers.{last_lsn}
use Rattle.rules.specs.Lists.{any}
use Rattle.rules.specs.Records.{Id, Commit, Present}
use Rattle.rules.specs.Tables.{Table}
use Rattle.rules.specs.Save.{lsn_after, has_sid, sid_in_use}
use Rattle.table.specs.Table.{count_of}
use Rattle.layout.specs.Tables.{commits_in}
use Rattle.rows.proofs.Rows.{length_rows}
use Rattle.rows.proofs.Finds.{rows_from}
use Rattle.rows.proofs.Tables.{commits}
use Rattle.commits.specs.Places.{commit_at}
use Rattle.presence.specs.Pages.{of_segment}

-- ---- the LSN: o is the log's latest commit

module _ (o : Option Commit) where
  abbrev next : Option Commit → Answer ℕ
  next x = lsn_after (map (λ (c : Commit). c.lsn) x)

  -- there is none
  pub first_lsn : none ≡ o → done 1 ≡ lsn_after (map (λ (c : Commit). c.lsn) o)
  unfolding lsn_after
  first_lsn e = ap next e

  module _ (c : Commit) (e : some c ≡ o) (n : ℕ) (f : n ≡ c.lsn) where
    by : Bool → Answer ℕ
    by b = ask b 18 >> done (n + 1)

    after_is : by (ltb n last_lsn) ≡ next o
    unfolding lsn_after by
    after_is = ap (λ (m : ℕ). ask (ltb m last_lsn) 18 >> done (m + 1)) f ∙ ap next e

    -- it is at the last LSN
    pub no_lsn : n ≡ 18446744073709551615 → refused 18 ≡ lsn_after (map (λ (c : Commit). c.lsn) o)
    unfolding by last_lsn
    no_lsn h = ap by (sym (le-ltb n last_lsn (omega arith))) ∙ after_is

    -- it is below it
    pub next_lsn_lem : (n ≡ 18446744073709551615 → ⊥) → n < 2 ^ 64 → done (n + 1) ≡ lsn_after (map (λ (c : Commit). c.lsn) o)
    unfolding by last_lsn
    next_lsn_lem h l = ap by (sym (lt-ltb n last_lsn (omega arith))) ∙ after_is

-- ---- the commits that name a segment

module _ (t : List ℕ) (sid : Id) where
  abbrev names : Commit → Bool
  names c = has_sid sid c.segment

  -- of the commits, those from i on decide
  pub record Left (i : ℕ) : Type 0 where
    pub within : i ≤ count_of t
    pub same : any (λ c. has_sid sid c.segment) (commits_in t).rows ≡ any (λ c. has_sid sid c.segment) (drop i (commits_in t).rows)

  pub left_start : Left 0
  left_start = record { within = omega arith; same = refl }

  module _ (i : ℕ) (h : i < count_of t) (w : Left i) where
    step : any names (drop i (commits_in t).rows) ≡ names (commit_at t i) || any names (drop (i + 1) (commits_in t).rows)
    unfolding any
    step = ap (any names) (rows_from commits t i h)

    pub named : true ≡ has_sid sid (commit_at t i).segment → true ≡ any (λ c. has_sid sid c.segment) (commits_in t).rows
    named e = ap (λ (b : Bool). b || any names (drop (i + 1) (commits_in t).rows)) e ∙ sym (w.same ∙ step)

    pub left_next : false ≡ has_sid sid (commit_at t i).segment → Left (i + 1)
    left_next e = record { within = omega arith; same = w.same ∙ step ∙ ap (λ (b : Bool). b || any names (drop (i + 1) (commits_in t).rows)) (sym e) }

  pub left_none : (i : ℕ) → count_of t ≤ i → Left i → false ≡ any (λ c. has_sid sid c.segment) (commits_in t).rows
  unfolding any
  left_none i h w =
      let l : length (commits_in t).rows ≤ i = omega (arith, length_rows commits t) in
      sym (w.same ∙ ap (any names) (drop_of_length-le (commits_in t).rows l))

-- ---- in use by either

module _ (cs : Table Commit) (ps : Table Present) (sid : Id) where
  pub present_used : true ≡ any (of_segment sid) ps.rows → true ≡ sid_in_use cs ps sid
  unfolding sid_in_use
  present_used e = sym (or-true (any (λ c. has_sid sid c.segment) cs.rows)) ∙ ap (λ (b : Bool). any (λ c. has_sid sid c.segment) cs.rows || b) e

  pub commits_decide : false ≡ any (of_segment sid) ps.rows → (b : Bool) → b ≡ any (λ c. has_sid sid c.segment) cs.rows → b ≡ sid_in_use cs ps sid
  unfolding sid_in_use
  commits_decide e b f = f ∙ sym (or-false (any (λ c. has_sid sid c.segment) cs.rows)) ∙ ap (λ (x : Bool). any (λ c. has_sid sid c.segment) cs.rows || x) e
    where
      or-false : (x : Bool) → x || false ≡ x
      or-false true = refl
      or-false false = refl
