-- Demand 3, whole: every valid snapshot (overlapping ranges, a log named twice, holes), every page. Search is the first commit in path order that
-- holds the page; so is the one to which the walk gives it; and the first in path order is the highest of the earliest range that has one.
use Rattle.std.proofs.Common.{◌≡◌, ℕ, ◌≤◌, true, List, [], ◌∷◌, length, sym, refl, ap, ◌∙◌, ⊎_elim, arith, le-leb}
use mathlib.Core.List.Memᴰ
use mathlib.Core.List.{Memᴰ}
use mathlib.Core.Option.{Option, none, some}
use borrow.Author.Tests.{lt-leb}
use Rattle.basics.proofs.OrderLaws.{log_lsn_lawful, log_page_lsn_lawful}
use Rattle.basics.specs.Orders.{log_lsn, log_page_lsn}
use Rattle.basics.specs.Answers.{refused}
use Rattle.basics.specs.Numbers.{counts}
use Rattle.pageset.specs.Sets.{rising}
use Rattle.rules.specs.Lists.{first, those, any, all, given}
use Rattle.rules.specs.Records.{Segment, Commit, Entry, Range, Snapshot, commit_key, entry_key}
use Rattle.rules.specs.Forms.{commit_form, entry_form, segment_form, lists_form}
use Rattle.rules.specs.Tables.{Table, in_order, commits_formed, index_formed}
use Rattle.rules.specs.Arguments.{snapshot_lsns, snapshot_order, snapshot_form}
use Rattle.rules.specs.Write.{pages_of}
use Rattle.rules.specs.Walk.{in_range, path_commits, walk_of, walk}
use Rattle.rules.specs.Search.{search_page}
use Rattle.rules.specs.Demand.{valid, commit_holds, Exact, Holder, Winner, Demand3}
use Rattle.rules.proofs.TableLaws.{options, clash, missing, and_fst, and_snd, and_both, or_else, first_some, first_none, first_least, first_those, first_append, all_weaken, all_those, all_append, formed_parts}
use Rattle.rules.proofs.PageLaws.{form_rising}
use Rattle.rules.proofs.Facts.{falls, in_range_lem}
use Rattle.rules.proofs.Search.{holder_in, search_first}
use Rattle.rules.proofs.Walk.{set_rises, walk_from_lem, walk_past}
use Rattle.rules.proofs.AnswerLaws.{refused_done}

module _ (cs : Table Commit) (up_c : in_order commit_key log_lsn cs.rows ≡ true) (p : ℕ) where
  holder_test : (r : Range) (c : Commit) → Holder cs p r c → holder_in r p c ≡ true
  holder_test r c h = and_both h.within h.holding

  test_holder : (r : Range) (c : Commit) → first (holder_in r p) cs.rows ≡ some c → Holder cs p r c
  test_holder r c e =
      let s = first_some (holder_in r p) cs.rows e in
      record { stored = s.0; within = and_fst (in_range r c) (commit_holds p c) s.1; holding = and_snd (in_range r c) (commit_holds p c) s.1 }

  -- the path's first holder, range by range
  in_parts : (r : Range) (rs : List Range) → first (commit_holds p) (path_commits cs (r ∷ rs)) ≡ or_else (first (holder_in r p) cs.rows) (first (commit_holds p) (path_commits cs rs))
  in_parts r rs = rw (first_append, first_those)

  no_holder : (r : Range) (c : Commit) → first (holder_in r p) cs.rows ≡ none → Holder cs p r c → ⊥
  no_holder r c e h = clash (holder_test r c h) (first_none (holder_in r p) cs.rows e h.stored)

  absent : (path : List Range) → first (commit_holds p) (path_commits cs path) ≡ none → (r : Range) → Memᴰ r path → (c : Commit) → Holder cs p r c → ⊥
  absent [] e r m c h = Memᴰ.not-nil m
  absent (q ∷ path) e r m c h =
      options (first (holder_in q p) cs.rows)
      (λ n. ⊎_elim (λ s. no_holder q c n (rw s at h)) (λ s. absent path (rw (in_parts q path, n) at e) r s c h) (Memᴰ.cases_cons m))
      (λ d n. missing {x = d} e (rw (in_parts q path, n)))

  highest : (r : Range) (c : Commit) → first (holder_in r p) cs.rows ≡ some c → (d : Commit) → Holder cs p r d → d.lsn ≤ c.lsn
  highest r c e d h =
      let ic = in_range_lem r c (test_holder r c e).within in
      let id = in_range_lem r d h.within in
      ⊎_elim (λ o. omega (arith, falls (commit_key c) (commit_key d) (sym ic.log ∙ id.log) o)) (λ s. omega (arith, ap (λ (x : Commit). x.lsn) s))
      (first_least commit_key log_lsn log_lsn_lawful (holder_in r p) cs.rows up_c e h.stored (holder_test r d h))

  wins : (path : List Range) (c : Commit) → first (commit_holds p) (path_commits cs path) ≡ some c → Winner cs p path c
  unfolding first
  wins [] c e = absurd (missing refl e)
  wins (r ∷ rs) c e =
      options (first (holder_in r p) cs.rows)
      (λ n. let w = wins rs c (rw (in_parts r rs, n) at e) in record {
        before = r ∷ w.before;
        range = w.range;
        later = w.later;
        split = ap {B = List Range} (λ l. r ∷ l) w.split;
        earliest = λ q m d h. ⊎_elim (λ s. no_holder r d n (rw s at h)) (λ s. w.earliest q s d h) (Memᴰ.cases_cons m);
        holder = w.holder;
        highest = w.highest;
      })
      (λ d n. let s : d ≡ c = cc (in_parts r rs, n, e) in let k : first (holder_in r p) cs.rows ≡ some c = n ∙ ap {B = Option Commit} some s in record {
        before = [];
        range = r;
        later = rs;
        split = refl;
        earliest = λ q m d h. Memᴰ.not-nil m;
        holder = test_holder r c k;
        highest = highest r c k;
      })

  winner_in : (path : List Range) (c : Commit) (w : Winner cs p path c) → Memᴰ w.range path
  winner_in path c w = rw w.split (Memᴰ.append_right w.before (Memᴰ.head refl))

  there : (path : List Range) → ((r : Range) → Memᴰ r path → (c : Commit) → Holder cs p r c → ⊥) → first (commit_holds p) (path_commits cs path) ≡ none
  there path h =
      options (first (commit_holds p) (path_commits cs path)) (λ n. n)
      (λ c n. let w = wins path c n in absurd (h w.range (winner_in path c w) c w.holder))

pub none_rises : rising 0 [] ≡ true
unfolding rising
none_rises = refl

-- the sets of stored commits are in normal form
pub set_rises_lem : (c : Commit) → commit_form c ≡ true → set_rises c ≡ true
unfolding commit_form segment_form lists_form
set_rises_lem c e = go c.segment (search (and_fst, and_snd))
  where
    go : (o : Option Segment) → given segment_form o ≡ true → rising 0 (pages_of o) ≡ true
    go none h = none_rises
    go (some s) h = form_rising s.pages (search (and_fst, and_snd))

pub path_rises : (cs : Table Commit) (path : List Range) → all commit_form cs.rows ≡ true → all set_rises (path_commits cs path) ≡ true
unfolding all
path_rises cs [] f = refl
path_rises cs (r ∷ rs) f =
    all_append set_rises (those (in_range r) cs.rows) (path_commits cs rs)
    ∙ and_both (all_those set_rises (in_range r) cs.rows (all_weaken commit_form set_rises cs.rows set_rises_lem f)) (path_rises cs rs f)

module _ (cs : Table Commit) (es : Table Entry) (s : Snapshot) (p : ℕ) (cf : commits_formed cs ≡ true) (ef : index_formed es ≡ true) (v : valid s ≡ true) (pos : counts p ≡ true)
    (exact : Exact cs es) where
  -- T1
  pub demand3 : Demand3 cs es s p
  unfolding search_page walk walk_of any valid
  demand3 =
      let c = formed_parts commit_key log_lsn log_lsn_lawful commit_form cs cf in
      let e = formed_parts entry_key log_page_lsn log_page_lsn_lawful entry_form es ef in
      let one : snapshot_lsns s ≡ true = search (and_fst, and_snd) in
      let two : snapshot_order s ≡ true = search (and_fst, and_snd) in
      let three : snapshot_form s ≡ true = search (and_fst, and_snd) in
      let sets = path_rises cs s.path c.forms in
      record {
        answer = first (commit_holds p) (path_commits cs s.path);
        answers = rw (cf, ef, one, pos, two, three) (search_first cs es c.up e.up exact p s.path);
        nothing = (absent cs c.up p s.path, there cs c.up p s.path);
        winner = λ d q. wins cs c.up p s.path d q;
        items = walk_of cs s;
        walked = λ slots h. rw (cf, one, two, three, le-leb (length (walk_of cs s)) slots h);
        short = λ slots h. rw (cf, one, two, three, lt-leb (length (walk_of cs s)) slots h);
        gives = λ h. walk_from_lem p s.count [] (path_commits cs s.path) sets (le-leb p s.count h);
        above = λ h. walk_past p s.count [] (path_commits cs s.path) sets (lt-leb p s.count h);
      }

  -- under an exact index search never answers 21
  pub never_21 : search_page cs es s p ≡ refused 21 → ⊥
  never_21 q = refused_done (sym q ∙ demand3.answers)
