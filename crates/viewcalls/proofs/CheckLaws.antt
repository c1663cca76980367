-- The latest check. Of one range: by which log it names. Of a path: all of its ranges are latest, and one is remote exactly if there is a sync.
-- Of the call: each of its tests takes the rule's test away, in the rule's order.
use Rattle.std.proofs.Common.{◌≡◌, ℕ, ◌<◌, ◌≤◌, Bool, true, false, not, ◌&&◌, ◌||◌, leb, List, [], ◌∷◌, map, length, take, drop, sym, refl, ap, ◌∙◌, ap₂, arith, length-take, le-leb, leb-true, Option as Maybe, Some, None}
use Rattle.std.specs.List.{list_any}
use mathlib.Core.Option
use mathlib.Core.Option.{Option, none, some}
use lib.ListN.{length-map}
use Rattle.basics.specs.Answers.{Answer, refused, done, ask, need, ◌>>◌, ◌>>=◌}
use Rattle.rules.specs.Lists.{all, any, is_some, is_none}
use Rattle.rules.specs.Records.{Id, Commit, Volume, Range}
use Rattle.rules.specs.Tables.{Table, same_id, get_volume, latest, latest_lsn, volumes_formed, commits_formed}
use Rattle.rules.specs.Arguments.{snapshot_lsns, snapshot_order, snapshot_form}
use Rattle.rules.specs.Snapshots.{remote_of, is_at, range_latest, is_remote, same_answer, path_latest, is_latest, latest_check}
use Rattle.rules.proofs.TableLaws.{and_fst, all_map, any_map, and_both}
use Rattle.layout.specs.Lent.{lent}
use Rattle.layout.specs.Tables.{volumes_in, volumes_ok, commits_in, commits_ok}
use Rattle.layout.proofs.LentLaws.{lent_yes}
use Rattle.rows.specs.Lookups.{nth}
use Rattle.volume.specs.Volumes.{sync_says, volume_says}
use Rattle.volume.specs.Snapshots.{range_says, snapshot_says, is_zero_range, in_form}
use Rattle.volume.specs.declared.volume.SyncPoint.{SyncPoint}
use Rattle.volume.specs.declared.volume.Volume.{Volume as CodeVolume}
use Rattle.volume.specs.declared.snapshot.LogRange.{LogRange}
use Rattle.volume.specs.declared.snapshot.Snapshot.{Snapshot as CodeSnapshot}
use Rattle.volumebytes.specs.Laid.{volume_laid}
use Rattle.volumebytes.proofs.RoundLaws.{says_laid}
use Rattle.volumecalls.proofs.Ends.{made_of}
use Rattle.viewcalls.specs.Checks.{latest_by, checked}
use Rattle.viewcalls.proofs.Ends.{formed}

-- ---- one range

module _ (v : Volume) (o : Option ℕ) (r : Range) where
  -- it names the local log
  pub local_end : same_id v.local r.log ≡ true → is_at o r.end ≡ latest_by v o r
  local_end e = rw e

  pub local_not_remote : same_id v.local r.log ≡ true → false ≡ is_remote v r
  local_not_remote e = rw e

  module _ (e : same_id v.local r.log ≡ false) where
    -- it names neither log
    pub no_end : same_id v.remote r.log ≡ false → false ≡ latest_by v o r
    no_end f = rw (e, f)

    -- it names the remote
    pub remote_end : same_id v.remote r.log ≡ true → is_at (remote_of v.sync) r.end ≡ latest_by v o r
    remote_end f = rw (e, f)

    pub by_remote : same_id v.remote r.log ≡ is_remote v r
    by_remote = rw e

-- ---- whether a remote range is there exactly if there is a sync

module _ (b : Bool) (y : Maybe SyncPoint) where
  pub without_sync : y ≡ None → not b ≡ same_answer b (is_some (sync_says y))
  without_sync e = go b ∙ ap (λ (x : Maybe SyncPoint). same_answer b (is_some (sync_says x))) (sym e)
    where
      go : (a : Bool) → not a ≡ same_answer a false
      go true = refl
      go false = refl

  pub with_sync : (p : SyncPoint) → y ≡ Some p → b ≡ same_answer b (is_some (sync_says y))
  with_sync p e = go b ∙ ap (λ (x : Maybe SyncPoint). same_answer b (is_some (sync_says x))) (sym e)
    where
      go : (a : Bool) → a ≡ same_answer a true
      go true = refl
      go false = refl

-- ---- any of a list, in std's word for it

pub any_listed : {A : Type 0} (f : A → Bool) (xs : List A) → list_any f xs ≡ any f xs
unfolding any
any_listed f [] = refl
any_listed f (x ∷ xs) = ap (λ (b : Bool). f x || b) (any_listed f xs)

-- ---- a path

module _ (cs : Table Commit) (v : Volume) where
  no_lsn : (c : Option Commit) → is_none (Option.map (λ (x : Commit). x.lsn) c) ≡ is_none c
  no_lsn none = refl
  no_lsn (some c) = refl

  no_ranges : (xs : List LogRange) → (is_none (latest cs v.local) && is_none v.sync) ≡ path_latest cs v (map range_says (take 0 xs))
  no_ranges [] = refl
  no_ranges (x ∷ xs) = refl

  ranges : (l : List Range) → 0 < length l → (all (range_latest cs v) l && same_answer (any (is_remote v) l) (is_some v.sync)) ≡ path_latest cs v l
  ranges [] h = absurd (omega arith)
  ranges (r ∷ l) h = refl

  -- o is the local log's latest LSN
  module _ (s : CodeSnapshot) (eight : length s.path ≡ 8) (o : Option ℕ) (e : o ≡ latest_lsn cs v.local) where
    pub empty_latest : s.len ≡ 0 → (is_none o && is_none v.sync) ≡ is_latest cs v (snapshot_says s)
    unfolding is_latest
    empty_latest z =
        ap (λ (b : Bool). b && is_none v.sync) (ap is_none e ∙ no_lsn (latest cs v.local))
        ∙ no_ranges s.path ∙ ap (λ (n : ℕ). path_latest cs v (map range_says (take n s.path))) (sym z)

    module _ (z : s.len ≡ 0 → ⊥) where
      path_is : (all (λ x. latest_by v o (range_says x)) (take s.len s.path) && same_answer (any (λ x. is_remote v (range_says x)) (take s.len s.path)) (is_some v.sync))
          ≡ is_latest cs v (snapshot_says s)
      unfolding is_latest
      path_is =
          let l : 0 < length (map range_says (take s.len s.path)) = simp (length-map, length-take) (omega arith) in
          ap₂ (λ (a b : Bool). a && same_answer b (is_some v.sync))
          (ap (λ (w : Option ℕ). all (λ x. latest_by v w (range_says x)) (take s.len s.path)) e ∙ sym (all_map (range_latest cs v) range_says (take s.len s.path)))
          (sym (any_map (is_remote v) range_says (take s.len s.path)))
          ∙ ranges (map range_says (take s.len s.path)) l

      -- one range is not latest
      pub path_old : all (λ x. latest_by v o (range_says x)) (take s.len s.path) ≡ false → false ≡ is_latest cs v (snapshot_says s)
      path_old f =
          ap (λ (b : Bool). b && same_answer (any (λ x. is_remote v (range_says x)) (take s.len s.path)) (is_some v.sync)) (sym f) ∙ path_is

      -- all are
      pub path_latest_lem : all (λ x. latest_by v o (range_says x)) (take s.len s.path) ≡ true → (found : Bool) → found ≡ any (λ x. is_remote v (range_says x)) (take s.len s.path)
          → same_answer found (is_some v.sync) ≡ is_latest cs v (snapshot_says s)
      path_latest_lem f found g =
          ap₂ (λ (a b : Bool). a && same_answer b (is_some v.sync)) (sym f) g ∙ path_is

-- ---- the call

-- a snapshot in form has at most 8 ranges
pub form_len : (s : CodeSnapshot) → in_form s ≡ true → s.len ≤ 8
unfolding in_form
form_len s e = leb-true s.len 8 (and_fst (leb s.len 8) (all is_zero_range (drop s.len s.path)) e)

-- where the tables are formed and the snapshot is in form, the call is the rule on what the snapshot says
pub checked_rule : (vs : Table Volume) (cs : Table Commit) (vid : Id) (s : CodeSnapshot) → (volumes_formed vs && commits_formed cs) ≡ true → in_form s ≡ true
    → checked vs cs vid s ≡ latest_check vs cs vid (snapshot_says s)
unfolding checked latest_check
checked_rule vs cs vid s f d = rw (f, d) (twice (snapshot_lsns (snapshot_says s)) (snapshot_order (snapshot_says s)) _)
  where
    twice : {A : Type 0} (a b : Bool) (k : Answer A) → ask a 1 >> (ask b 2 >> (ask a 1 >> (ask b 2 >> k))) ≡ ask a 1 >> (ask b 2 >> k)
    twice false b k = refl
    twice true false k = refl
    twice true true k = refl

module _ (t u : List ℕ) (vid : Id) (s : CodeSnapshot) (ok : volumes_ok t ≡ true) (oku : commits_ok u ≡ true) where
  past_20 : lent (volumes_ok t && commits_ok u) (checked (volumes_in t) (commits_in u) vid s) ≡ checked (volumes_in t) (commits_in u) vid s
  past_20 = lent_yes (volumes_ok t && commits_ok u) (checked (volumes_in t) (commits_in u) vid s) (and_both ok oku)

  -- 1
  pub zero_lsn : snapshot_lsns (snapshot_says s) ≡ false → refused 1 ≡ lent (volumes_ok t && commits_ok u) (checked (volumes_in t) (commits_in u) vid s)
  unfolding checked
  zero_lsn a = rw (past_20, a)

  module _ (a : snapshot_lsns (snapshot_says s) ≡ true) where
    -- 2
    pub start_above : snapshot_order (snapshot_says s) ≡ false → refused 2 ≡ lent (volumes_ok t && commits_ok u) (checked (volumes_in t) (commits_in u) vid s)
    unfolding checked
    start_above b = rw (past_20, a, b)

    module _ (b : snapshot_order (snapshot_says s) ≡ true) where
      -- 3
      pub no_form : in_form s ≡ false → refused 3 ≡ lent (volumes_ok t && commits_ok u) (checked (volumes_in t) (commits_in u) vid s)
      unfolding checked
      no_form d = rw (past_20, a, b, d)

      module _ (d : in_form s ≡ true) where
        within : snapshot_form (snapshot_says s) ≡ true
        unfolding snapshot_form
        within =
            let h = form_len s d in
            let l : length (map range_says (take s.len s.path)) ≤ 8 = simp (length-map, length-take) (omega arith) in
            le-leb (length (map range_says (take s.len s.path))) 8 l

        verdict : Option Volume → Answer Bool
        verdict w = need w 4 >>= (λ v. done (is_latest (commits_in u) v (snapshot_says s)))

        check_is : lent (volumes_ok t && commits_ok u) (checked (volumes_in t) (commits_in u) vid s) ≡ verdict (get_volume (volumes_in t) vid)
        unfolding checked latest_check verdict
        check_is = rw (past_20, a, b, d, formed t u vid ok oku, within)

        -- 4
        pub no_verdict : get_volume (volumes_in t) vid ≡ none → refused 4 ≡ lent (volumes_ok t && commits_ok u) (checked (volumes_in t) (commits_in u) vid s)
        unfolding verdict
        no_verdict e = sym (check_is ∙ ap verdict e)

        -- the volume x stands at place i
        pub verdict_found : (i : ℕ) (x : CodeVolume) (r : Bool) → nth i (volumes_in t).rows ≡ get_volume (volumes_in t) vid → Option.map volume_laid (nth i (volumes_in t).rows) ≡ some x
            → r ≡ is_latest (commits_in u) (volume_says x) (snapshot_says s) → done r ≡ lent (volumes_ok t && commits_ok u) (checked (volumes_in t) (commits_in u) vid s)
        unfolding verdict
        verdict_found i x r here read h =
            made_of volume_laid (nth i (volumes_in t).rows) x read (λ v e q.
            ap done (h ∙ ap (λ (z : CodeVolume). is_latest (commits_in u) (volume_says z) (snapshot_says s)) (sym q) ∙ ap (λ (w : Volume). is_latest (commits_in u) w (snapshot_says s)) (says_laid v))
            ∙ sym (check_is ∙ ap verdict (sym here ∙ e)))
