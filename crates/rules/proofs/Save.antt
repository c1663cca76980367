-- Save, then snapshot, then search: each page written is found, in the new commit. The new commit is above all of its log, so it overwrites none and is
-- the latest; where the watermark is below it the snapshot's first range ends at it, and in that range no holder of the page is higher.
use Rattle.std.proofs.Common.{◌≡◌, ℕ, ◌+◌, ◌<◌, true, not, ◌&&◌, ltb, leb, List, ◌∷◌, sym, refl, ap, ◌∙◌, ⊎_elim, le_refl, arith, ltb-false, ltb-true, lt-ltb, le-leb, leb-true}
use mathlib.Core.List.{Memᴰ}
use mathlib.Core.Option.{Option, none, some, map}
use borrow.Author.Tests.{not-true}
use Rattle.basics.proofs.OrderLaws.{log_lsn_lawful}
use Rattle.basics.specs.Orders.{log_lsn}
use Rattle.basics.specs.Answers.{done}
use Rattle.basics.specs.Numbers.{counts}
use Rattle.pageset.specs.Sets.{holds, normal_form}
use Rattle.rules.specs.Lists.{first, all, given}
use Rattle.rules.specs.Records.{Id, Pages, Commit, SyncPoint, Volume, Present, Range, Snapshot, commit_key}
use Rattle.rules.specs.Forms.{lsn_form, count_form, id_form, sync_form, volume_form}
use Rattle.rules.specs.Tables.{Table, in_order, volumes_formed, commits_formed, index_formed, get_volume, latest, latest_lsn}
use Rattle.rules.specs.Arguments.{snapshot_lsns, snapshot_order, snapshot_form}
use Rattle.rules.specs.Write.{Logs, write, logs_formed}
use Rattle.rules.specs.Snapshots.{watermark_of, remote_of, below, after, remote_path, snapshot_of, snapshot}
use Rattle.rules.specs.Save.{lsn_after, saved_commit, now_present, save}
use Rattle.rules.specs.Walk.{in_range}
use Rattle.rules.specs.Search.{search_page}
use Rattle.rules.specs.Demand.{commit_holds, Exact}
use Rattle.rules.proofs.TableLaws.{cases, options, clash, option_same, and_fst, and_snd, and_both, first_append, first_those, first_some, first_none, first_least, put_mem, mem_put, in_order_put}
use Rattle.rules.proofs.Facts.{falls, in_range_lem, range_in_lem}
use Rattle.rules.proofs.AnswerLaws.{done_same}
use Rattle.rules.proofs.Lookups.{latest_some, latest_none, latest_is}
use Rattle.rules.proofs.Search.{holder_in, search_first}
use Rattle.rules.proofs.Write.{logs_rows}
use Rattle.rules.proofs.Kept.{volume_form_lem, sync_form_lem, next_above, save_done, save_kept}
use Rattle.rules.proofs.Index.{save_exact}

-- no stored commit of the log is at or above the new LSN
above : (cs : Table Commit) (log : Id) (lsn : ℕ) → in_order commit_key log_lsn cs.rows ≡ true → ((m : ℕ) → latest_lsn cs log ≡ some m → m < lsn)
    → (d : Commit) → Memᴰ d cs.rows → log ≡ d.log → d.lsn < lsn
above cs log lsn up h d m e =
    options (latest cs log) (λ n. absurd (latest_none cs log n d m e))
    (λ c n. let k = latest_some cs log c up n in omega (arith, k.highest d m e, h c.lsn (ap (map (λ (x : Commit). x.lsn)) n)))

-- a commit above all of its log is the latest once it is written
new_latest : (g : Logs) (c : Commit) → in_order commit_key log_lsn g.commits.rows ≡ true → ((d : Commit) → Memᴰ d g.commits.rows → c.log ≡ d.log → d.lsn < c.lsn)
    → latest (write g c).commits c.log ≡ some c
unfolding write
new_latest g c up h =
    latest_is (write g c).commits c.log c (in_order_put commit_key log_lsn log_lsn_lawful c g.commits.rows up) (record {
      stored = put_mem commit_key log_lsn log_lsn_lawful c g.commits.rows;
      named = refl;
      highest = λ d m e. ⊎_elim (λ s. omega (arith, ap (λ (x : Commit). x.lsn) s)) (λ s. omega (arith, h d s e)) (mem_put commit_key log_lsn log_lsn_lawful c g.commits.rows m);
    })

-- the range that ends at the commit gives it for each of its pages
range_first : (cs : Table Commit) (r : Range) (p : ℕ) (c : Commit) → in_order commit_key log_lsn cs.rows ≡ true → Memᴰ c cs.rows → in_range r c ≡ true → commit_holds p c ≡ true
    → c.lsn ≡ r.end → first (holder_in r p) cs.rows ≡ some c
range_first cs r p c up m w k top =
    options (first (holder_in r p) cs.rows) (λ n. absurd (clash (and_both w k) (first_none (holder_in r p) cs.rows n m)))
    (λ d n. let i = in_range_lem r d (and_fst (in_range r d) (commit_holds p d) (first_some (holder_in r p) cs.rows n).1) in
    ⊎_elim (λ o. absurd (omega (arith, i.end, falls (commit_key d) (commit_key c) (sym i.log ∙ (in_range_lem r c w).log) o))) (λ s. n ∙ ap {B = Option Commit} some s)
    (first_least commit_key log_lsn log_lsn_lawful (holder_in r p) cs.rows up n m (and_both w k)))

-- ---- the snapshot that save answers is valid

start_one : (w : Option ℕ) (lsn : ℕ) → lsn_form lsn ≡ true → counts (after w) && counts lsn ≡ true
unfolding lsn_form
start_one none lsn l = and_both refl (search and_fst)
start_one (some w) lsn l = and_both (lt-ltb 0 (w + 1) (omega arith)) (search and_fst)

start_two : (w : Option ℕ) (lsn : ℕ) → lsn_form lsn ≡ true → below w lsn ≡ true → leb (after w) lsn ≡ true
unfolding lsn_form
start_two none lsn l a = let p : counts lsn ≡ true = search and_fst in le-leb 1 lsn (omega (arith, ltb-true 0 lsn p))
start_two (some w) lsn l a = le-leb (w + 1) lsn (omega (arith, ltb-true w lsn a))

abbrev new_path : Volume → Option SyncPoint → ℕ → List Range
new_path v o lsn = record { log = v.local; start = after (watermark_of o); end = lsn } ∷ remote_path v (remote_of o)

record Three (s : Snapshot) : Type 0 where
  one : snapshot_lsns s ≡ true
  two : snapshot_order s ≡ true
  three : snapshot_form s ≡ true

new_valid : (v : Volume) (o : Option SyncPoint) (lsn count : ℕ) → given sync_form o ≡ true → lsn_form lsn ≡ true → below (watermark_of o) lsn ≡ true → Three (record { path = new_path v o lsn; count = count })
unfolding snapshot_lsns snapshot_order snapshot_form all sync_form lsn_form
new_valid v none lsn count f l a = record { one = and_both (start_one none lsn l) refl; two = and_both (start_two none lsn l a) refl; three = refl }
new_valid v (some y) lsn count f l a =
    let r : counts y.remote ≡ true = search (and_fst, and_snd) in
    record {
      one = and_both (start_one y.watermark lsn l) (and_both r refl);
      two = and_both (start_two y.watermark lsn l a) (and_both (le-leb 1 y.remote (omega (arith, ltb-true 0 y.remote r))) refl);
      three = refl;
    }

-- ---- the theorem

logs_parts : (g : Logs) → logs_formed g ≡ true → (commits_formed g.commits ≡ true) × (index_formed g.index ≡ true)
unfolding logs_formed
logs_parts g e = (search (and_fst, and_snd), search (and_fst, and_snd))

positive : (pages : Pages) (p : ℕ) → normal_form pages ≡ true → holds pages p ≡ true → counts p ≡ true
unfolding normal_form
positive pages p e h =
    let z : not (holds pages 0) ≡ true = search (and_fst, and_snd) in
    cases (ltb 0 p) (λ q. q) (λ q. let i : p ≡ 0 = omega (arith, ltb-false 0 p q) in absurd (clash (rw i at h) (not-true (holds pages 0) z)))

module _ (vs : Table Volume) (g : Logs) (v : Volume) (lsn count : ℕ) (sid : Id) (pages : Pages) (vf : volume_form v ≡ true) (lf : logs_formed g ≡ true) (set : normal_form pages ≡ true)
    (nx : lsn_after (latest_lsn g.commits v.local) ≡ done lsn) (w : below (watermark_of v.sync) lsn ≡ true) where
  new_above : (d : Commit) → Memᴰ d g.commits.rows → v.local ≡ d.log → d.lsn < lsn
  new_above = above g.commits v.local lsn (logs_rows g lf).commits.up (next_above (latest_lsn g.commits v.local) lsn nx).1

  new_snapshot : snapshot_of (write g (saved_commit v lsn count sid pages)).commits v ≡ record { path = new_path v v.sync lsn; count = count }
  unfolding snapshot_of
  new_snapshot = rw (new_latest g (saved_commit v lsn count sid pages) (logs_rows g lf).commits.up new_above, w)

  new_mem : Memᴰ (saved_commit v lsn count sid pages) (write g (saved_commit v lsn count sid pages)).commits.rows
  unfolding write
  new_mem = put_mem commit_key log_lsn log_lsn_lawful (saved_commit v lsn count sid pages) g.commits.rows

  new_in : in_range (record { log = v.local; start = after (watermark_of v.sync); end = lsn }) (saved_commit v lsn count sid pages) ≡ true
  new_in =
      range_in_lem _ (saved_commit v lsn count sid pages) (record {
        log = refl;
        start = leb-true (after (watermark_of v.sync)) lsn (start_two (watermark_of v.sync) lsn (next_above (latest_lsn g.commits v.local) lsn nx).0 w);
        end = le_refl lsn;
      })

  new_found : logs_formed (write g (saved_commit v lsn count sid pages)) ≡ true → Exact (write g (saved_commit v lsn count sid pages)).commits (write g (saved_commit v lsn count sid pages)).index
      → (p : ℕ) → holds pages p ≡ true
      → search_page (write g (saved_commit v lsn count sid pages)).commits (write g (saved_commit v lsn count sid pages)).index (record { path = new_path v v.sync lsn; count = count }) p
      ≡ done (some (saved_commit v lsn count sid pages))
  unfolding search_page commit_holds
  new_found lf' exact p h =
      let c = saved_commit v lsn count sid pages in
      let g' = write g c in
      let parts = logs_parts g' lf' in
      let up = (logs_rows g' lf').commits.up in
      let r : Range = record { log = v.local; start = after (watermark_of v.sync); end = lsn } in
      let k = new_valid v v.sync lsn count (sync_form_lem v vf) (next_above (latest_lsn g.commits v.local) lsn nx).0 w in
      rw (parts.0, parts.1, k.one, positive pages p set h, k.two, k.three)
      (search_first g'.commits g'.index up (logs_rows g' lf').index.up exact p (new_path v v.sync lsn)
      ∙ rw (first_append, first_those, range_first g'.commits r p c up new_mem new_in h refl))

-- T7: where the watermark is below the new LSN, a snapshot taken after the save is the one that it answered, and search finds the new commit for each page written
pub save_found : (vs : Table Volume) (g : Logs) (ps : Table Present) (vid : Id) (s : Snapshot) (count : ℕ) (sid : Id) (pages : Pages) (r : Snapshot × Logs × Table Present)
    → save vs g ps vid s count sid pages ≡ done r → count_form count && id_form sid ≡ true → Exact g.commits g.index
    → (v : Volume) (lsn : ℕ) → get_volume vs vid ≡ some v → lsn_after (latest_lsn g.commits v.local) ≡ done lsn → below (watermark_of v.sync) lsn ≡ true
    → (p : ℕ) → holds pages p ≡ true
    → (snapshot vs r.1.commits vid ≡ done r.0) × (search_page r.1.commits r.1.index r.0 p ≡ done (some (saved_commit v lsn count sid pages)))
unfolding snapshot
save_found vs g ps vid s count sid pages r e t exact v lsn is nx w p h =
    let x = save_done vs g ps vid s count sid pages r e in
    let lf' = (save_kept vs g ps vid s count sid pages r t e).0 in
    let ex' = save_exact vs g ps vid s count sid pages r e exact in
    let sv : x.volume ≡ v = option_same (sym x.is ∙ is) in
    let sl : x.lsn ≡ lsn = done_same (sym x.next ∙ ap (λ (u : Volume). lsn_after (latest_lsn g.commits u.local)) sv ∙ nx) in
    let res : ◌≡◌ {A = Snapshot × Logs × Table Present} (snapshot_of (write g (saved_commit v lsn count sid pages)).commits v, write g (saved_commit v lsn count sid pages), now_present sid pages ps) r =
    (λ i. (snapshot_of (write g (saved_commit (sym sv i) (sym sl i) count sid pages)).commits (sym sv i), write g (saved_commit (sym sv i) (sym sl i) count sid pages), now_present sid pages ps)) ∙ x.result in
    let vf = volume_form_lem vs vid v x.volumes is in
    go res x.volumes x.logs x.set vf lf' ex'
  where
    go : ◌≡◌ {A = Snapshot × Logs × Table Present} (snapshot_of (write g (saved_commit v lsn count sid pages)).commits v, write g (saved_commit v lsn count sid pages), now_present sid pages ps) r
        → volumes_formed vs ≡ true → logs_formed g ≡ true → normal_form pages ≡ true → volume_form v ≡ true → logs_formed r.1 ≡ true → Exact r.1.commits r.1.index
        → (snapshot vs r.1.commits vid ≡ done r.0) × (search_page r.1.commits r.1.index r.0 p ≡ done (some (saved_commit v lsn count sid pages)))
    go res vsf lf set vf lf' ex' =
        let g' = write g (saved_commit v lsn count sid pages) in
        let sg : g' ≡ r.1 = λ i. (res i).1 in
        let ss : snapshot_of g'.commits v ≡ r.0 = λ i. (res i).0 in
        let lg : logs_formed g' ≡ true = rw (← sg) at lf' in
        let eg : Exact g'.commits g'.index = rw (← sg) at ex' in (
          rw (← sg, ← ss) (rw (vsf, (logs_parts g' lg).0, is)),
          rw (← sg, ← ss, new_snapshot vs g v lsn count sid pages vf lf set nx w) (new_found vs g v lsn count sid pages vf lf set nx w lg eg p h),
        )
