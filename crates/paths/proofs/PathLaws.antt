-- The commits of a path, one at a time. In a table whose keys rise the first commit of a range has its highest LSN, so those after it are the commits of the same range up to
-- below it (`those_next`). A commit of a log that no range names changes nothing of what a path gives (`path_other`); ranges of a log without commits give nothing (`path_without`).
use Rattle.std.proofs.Common.{◌≡◌, ◌<◌, Bool, true, false, cond, not, List, [], ◌∷◌, length, sym, refl, ap, ◌∙◌, arith}
use mathlib.Core.Option.{none}
use Rattle.basics.specs.Orders.{log_lsn, is_lt}
use Rattle.rules.specs.Lists.{first, those, all}
use Rattle.rules.specs.Records.{Id, Commit, Range, LogLsn, commit_key}
use Rattle.rules.specs.Tables.{Table, in_order, put, store, same_id, latest}
use Rattle.rules.specs.Walk.{in_range, path_commits}
use Rattle.basics.proofs.OrderLaws.{log_lsn_lawful}
use Rattle.rules.proofs.TableLaws.{cases, clash, missing, lt_of, and_fst, and_snd, orders}
use Rattle.rules.proofs.Facts.{same_id_lem, id_same, falls, in_range_lem, range_in_lem}
use Rattle.paths.specs.Left.{lowered, other_log}

module _ {A : Type 0} where
  -- two tests that agree wherever a third holds
  those_agree : (f g h : A → Bool) → ((x : A) → h x ≡ true → f x ≡ g x) → (l : List A) → all h l ≡ true → those f l ≡ those g l
  unfolding those all
  those_agree f g h k [] a = refl
  those_agree f g h k (x ∷ xs) a =
      ap (λ (b : Bool). cond b (x ∷ those f xs) (those f xs)) (k x (and_fst (h x) (all h xs) a))
      ∙ ap (λ (l : List A). cond (g x) (x ∷ l) l) (those_agree f g h k xs (and_snd (h x) (all h xs) a))

-- a test that says yes where another does, and the other way round
same_test : (a b : Bool) → (a ≡ true → b ≡ true) → (b ≡ true → a ≡ true) → a ≡ b
same_test true b f g = sym (f refl)
same_test false true f g = g refl
same_test false false f g = refl

-- ---- the next commit of a range

module _ (r : Range) (c : Commit) (h : in_range r c ≡ true) (p : 0 < c.lsn) where
  -- of a commit behind it in key order, the range and the lowered one say the same
  behind : (y : Commit) → is_lt (log_lsn (commit_key c) (commit_key y)) ≡ true → in_range r y ≡ in_range (lowered r c.lsn) y
  behind y o =
      same_test (in_range r y) (in_range (lowered r c.lsn) y)
      (λ e. let k = in_range_lem r y e in
      range_in_lem (lowered r c.lsn) y (record { log = k.log; start = k.start; end = omega (arith, p, falls (commit_key c) (commit_key y) (sym (in_range_lem r c h).log ∙ k.log) (lt_of (log_lsn (commit_key c) (commit_key y)) o)) }))
      (λ e. let k = in_range_lem (lowered r c.lsn) y e in
      range_in_lem r y (record { log = k.log; start = k.start; end = omega (arith, p, k.end, (in_range_lem r c h).end) }))

  -- it is not in the lowered range itself
  own_not : in_range (lowered r c.lsn) c ≡ false
  own_not = cases (in_range (lowered r c.lsn) c) (λ e. absurd (omega (arith, p, (in_range_lem (lowered r c.lsn) c e).end))) (λ e. e)

  -- a commit that is not in the range is not in the lowered one
  out_not : (y : Commit) → in_range r y ≡ false → in_range (lowered r c.lsn) y ≡ false
  out_not y e =
      cases (in_range (lowered r c.lsn) y)
      (λ q. let k = in_range_lem (lowered r c.lsn) y q in
      absurd (clash (range_in_lem r y (record { log = k.log; start = k.start; end = omega (arith, p, k.end, (in_range_lem r c h).end) })) e)) (λ q. q)

  pub those_next : (l cs : List Commit) → in_order commit_key log_lsn l ≡ true → those (in_range r) l ≡ c ∷ cs → those (in_range (lowered r c.lsn)) l ≡ cs
  unfolding those in_order
  those_next [] cs up e = absurd (omega (arith, ap (length {A = Commit}) e))
  those_next (x ∷ xs) cs up e =
      let here = and_fst (all (λ y. is_lt (log_lsn (commit_key x) (commit_key y))) xs) (in_order commit_key log_lsn xs) up in
      let rest = and_snd (all (λ y. is_lt (log_lsn (commit_key x) (commit_key y))) xs) (in_order commit_key log_lsn xs) up in
      cases (in_range r x)
      (λ q. let s : x ≡ c = cc in let t : those (in_range r) xs ≡ cs = cc in
      rw (s, own_not) (sym (those_agree (in_range r) (in_range (lowered r c.lsn)) (λ y. is_lt (log_lsn (commit_key c) (commit_key y))) behind xs (rw s at here)) ∙ t))
      (λ q. let t : those (in_range r) xs ≡ c ∷ cs = cc in rw (out_not x q) (those_next xs cs rest t))

-- ---- a commit of another log

-- a range that does not name a commit's log does not have the commit
not_there : (log : Id) (r : Range) (c : Commit) → other_log log r ≡ true → log ≡ c.log → in_range r c ≡ false
not_there log r c o e =
    cases (in_range r c) (λ q. absurd (clash o (ap not (id_same log r.log (e ∙ sym (in_range_lem r c q).log))))) (λ q. q)

module _ (c : Commit) (r : Range) (o : other_log c.log r ≡ true) where
  -- stored, it changes nothing of the range
  those_other : (l : List Commit) → those (in_range r) (put commit_key log_lsn c l) ≡ those (in_range r) l
  unfolding those put
  those_other [] = rw (not_there c.log r c o refl) refl
  those_other (x ∷ xs) =
      orders (log_lsn (commit_key c) (commit_key x)) (λ q. rw (q, not_there c.log r c o refl) refl)
      (λ q. let s : commit_key c ≡ commit_key x = log_lsn_lawful.same (commit_key c) (commit_key x) q in
      rw (q, not_there c.log r c o refl, not_there c.log r x o (ap (λ (k : LogLsn). k.0) s)) refl)
      (λ q. rw (q, those_other xs) refl)

pub path_other : (cs : Table Commit) (c : Commit) (path : List Range) → all (other_log c.log) path ≡ true → path_commits (store commit_key log_lsn c cs) path ≡ path_commits cs path
unfolding all
path_other cs c [] a = refl
path_other cs c (r ∷ rs) a =
    rw (those_other c r (and_fst (other_log c.log r) (all (other_log c.log) rs) a) cs.rows, path_other cs c rs (and_snd (other_log c.log r) (all (other_log c.log) rs) a)) refl

-- ---- a log without commits

module _ {A : Type 0} where
  -- where no record passes a test, none passes a narrower one
  those_none : (f g : A → Bool) → ((x : A) → g x ≡ true → f x ≡ true) → (l : List A) → first f l ≡ none → those g l ≡ []
  unfolding those first
  those_none f g k [] e = refl
  those_none f g k (x ∷ xs) e =
      cases (f x) (λ q. absurd (missing (rw q at e) refl))
      (λ q. cases (g x) (λ p. absurd (clash (k x p) q)) (λ p. rw p (those_none f g k xs (rw q at e))))

pub path_without : (cs : Table Commit) (log : Id) → latest cs log ≡ none → (path : List Range) → path_commits cs (those (other_log log) path) ≡ path_commits cs path
unfolding those
path_without cs log e [] = refl
path_without cs log e (r ∷ rs) =
    cases (same_id log r.log)
    (λ q. let n = those_none (λ (c : Commit). same_id log c.log) (in_range r) (λ c h. id_same log c.log (same_id_lem log r.log q ∙ (in_range_lem r c h).log)) cs.rows e in
    rw (q, n) (path_without cs log e rs))
    (λ q. rw (q, path_without cs log e rs) refl)
