-- Search: on tables in key order, with an exact index, it is the first commit of the path that holds the page. In a range the first entry has the
-- highest LSN, its commit is stored and holds the page, and no holder of the range is higher, since it would have an entry too.
use Rattle.std.proofs.Common.{◌≡◌, ℕ, ◌<◌, Bool, true, ◌&&◌, List, [], ◌∷◌, sym, refl, ap, ◌∙◌, ⊎_elim, arith}
use mathlib.Core.List.Memᴰ
use mathlib.Core.List.{Memᴰ}
use mathlib.Core.Option.{Option, none, some}
use Rattle.basics.proofs.OrderLaws.{log_lsn_lawful, log_page_lsn_lawful}
use Rattle.basics.specs.Orders.{log_lsn, log_page_lsn}
use Rattle.basics.specs.Answers.{done}
use Rattle.rules.specs.Lists.{first, is_some}
use Rattle.rules.specs.Records.{Commit, Entry, Range, commit_key, entry_key}
use Rattle.rules.specs.Tables.{Table, in_order, get, get_commit}
use Rattle.rules.specs.Walk.{in_range, path_commits}
use Rattle.rules.specs.Search.{entry_in, search_path}
use Rattle.rules.specs.Demand.{commit_holds, listed, holds_at, Exact}
use Rattle.rules.proofs.TableLaws.{options, clash, and_fst, and_snd, and_both, first_some, first_none, first_least, first_those, first_append, get_some, mem_get}
use Rattle.rules.proofs.Facts.{falls, falls_page, in_range_lem, range_in_lem, EntryIn, entry_in_lem, in_entry}

-- the test of a range's holder
abbrev pub holder_in : Range → ℕ → Commit → Bool
holder_in r p c = in_range r c && commit_holds p c

module _ (cs : Table Commit) (es : Table Entry) (up_c : in_order commit_key log_lsn cs.rows ≡ true) (up_i : in_order entry_key log_page_lsn es.rows ≡ true) (exact : Exact cs es) where
  -- an entry's commit is stored, and holds its page
  entry_commit_lem : (e : Entry) → Memᴰ e es.rows → (c : Commit) × (get_commit cs e.log e.lsn ≡ some c) × (commit_holds e.page c ≡ true)
  entry_commit_lem e m =
      let h : holds_at e.page (get_commit cs e.log e.lsn) ≡ true =
      sym (exact e.log e.page e.lsn) ∙ ap is_some (mem_get entry_key log_page_lsn log_page_lsn_lawful es.rows up_i m) in
      options (get_commit cs e.log e.lsn) (λ q. absurd (clash (rw q at h) refl)) (λ c q. (c, q, rw q at h))

  -- a stored commit's page is listed
  commit_entry : (c : Commit) (p : ℕ) → Memᴰ c cs.rows → commit_holds p c ≡ true → Memᴰ (record { log = c.log; page = p; lsn = c.lsn }) es.rows
  commit_entry c p m h =
      let l : listed es c.log p c.lsn ≡ true =
      exact c.log p c.lsn ∙ ap (holds_at p) (mem_get commit_key log_lsn log_lsn_lawful cs.rows up_c m) ∙ h in
      options (get entry_key log_page_lsn (c.log, (p, c.lsn)) es.rows) (λ q. absurd (clash l (ap is_some q)))
      (λ e q. let s = get_some entry_key log_page_lsn log_page_lsn_lawful (c.log, (p, c.lsn)) es.rows q in
      Memᴰ.cast (λ i. record { log = (s.1 i).0; page = (s.1 i).1.0; lsn = (s.1 i).1.1 }) s.0)

  -- a holder in the range has an entry that is listed there
  holder_listed : (r : Range) (p : ℕ) (c : Commit) → Memᴰ c cs.rows → holder_in r p c ≡ true
      → Memᴰ (record { log = c.log; page = p; lsn = c.lsn }) es.rows × (entry_in r p (record { log = c.log; page = p; lsn = c.lsn }) ≡ true)
  holder_listed r p c m h =
      let w = in_range_lem r c (and_fst (in_range r c) (commit_holds p c) h) in
      (commit_entry c p m (and_snd (in_range r c) (commit_holds p c) h), in_entry r p _ (record { log = w.log; page = refl; start = w.start; end = w.end }))

  range_none : (r : Range) (p : ℕ) → first (entry_in r p) es.rows ≡ none → first (holder_in r p) cs.rows ≡ none
  range_none r p e =
      options (first (holder_in r p) cs.rows) (λ q. q)
      (λ c q. let s = first_some (holder_in r p) cs.rows q in
      let l = holder_listed r p c s.0 s.1 in absurd (clash l.1 (first_none (entry_in r p) es.rows e l.0)))

  -- the commit of the first entry that is listed in the range is the range's first holder: no entry is higher, so no holder is
  top : (r : Range) (p : ℕ) (e : Entry) (c : Commit) → first (entry_in r p) es.rows ≡ some e → EntryIn r p e
      → Memᴰ c cs.rows → e.log ≡ c.log → e.lsn ≡ c.lsn → commit_holds p c ≡ true → first (holder_in r p) cs.rows ≡ some c
  top r p e c q l m u v h =
      let w : holder_in r p c ≡ true = and_both (range_in_lem r c (record { log = l.log ∙ u; start = (rw v at l).start; end = (rw v at l).end })) h in
      options (first (holder_in r p) cs.rows) (λ n. absurd (clash w (first_none (holder_in r p) cs.rows n m)))
      (λ d n.
      let f = first_some (holder_in r p) cs.rows n in
      let z = holder_listed r p d f.0 f.1 in
      let x = in_range_lem r d (and_fst (in_range r d) (commit_holds p d) f.1) in
      ⊎_elim
      (λ o. let up : c.lsn < d.lsn = falls (commit_key d) (commit_key c) (sym x.log ∙ l.log ∙ u) o in
      ⊎_elim (λ a. let dn : d.lsn < e.lsn = falls_page (entry_key e) (d.log, (p, d.lsn)) (sym l.log ∙ x.log) (sym l.page) a in absurd (omega arith)) (λ a. let same : e.lsn ≡ d.lsn = ap (λ (k : Entry). k.lsn) a in absurd (omega arith))
      (first_least entry_key log_page_lsn log_page_lsn_lawful (entry_in r p) es.rows up_i q z.0 z.1))
      (λ a. n ∙ ap {B = Option Commit} some a)
      (first_least commit_key log_lsn log_lsn_lawful (holder_in r p) cs.rows up_c n m w))

  range_some : (r : Range) (p : ℕ) (e : Entry) → first (entry_in r p) es.rows ≡ some e
      → (c : Commit) × (get_commit cs e.log e.lsn ≡ some c) × (first (holder_in r p) cs.rows ≡ some c)
  range_some r p e q =
      let s = first_some (entry_in r p) es.rows q in
      let l = entry_in_lem r p e s.1 in
      let (c, g, h) = entry_commit_lem e s.0 in
      let k = get_some commit_key log_lsn log_lsn_lawful (e.log, e.lsn) cs.rows g in
      (c, g, top r p e c q l k.0 (λ i. (k.1 i).0) (λ i. (k.1 i).1) (ap (λ (n : ℕ). commit_holds n c) l.page ∙ h))

  -- search is the first commit of the path that holds the page
  pub search_first : (p : ℕ) (path : List Range) → search_path cs es p path ≡ done (first (commit_holds p) (path_commits cs path))
  unfolding first
  search_first p [] = refl
  search_first p (r ∷ rs) =
      options (first (entry_in r p) es.rows)
      (λ e. rw (e, first_append, first_those, range_none r p e) (search_first p rs))
      (λ x e. let h = range_some r p x e in rw (e, h.1, first_append, first_those, h.2))
