-- The ends of the calls: for each way out of the code, the rule's answer. A snapshot goes by what the lookups found: the local log's latest commit, and the commit at
-- sync.remote; the call by whether its tables are formed and its volume is stored.
use Rattle.std.proofs.Common.{◌≡◌, ℕ, Bool, true, false, cond, ◌&&◌, List, [], ◌∷◌, set, sym, ap, ◌∙◌, ap₂}
use mathlib.Core.Option.{Option, none, some, map}
use mathlib.Core.Bool.{and-false}
use Rattle.basics.specs.Answers.{Answer, refused, done, ask, need, ◌>>◌, ◌>>=◌}
use Rattle.rules.specs.Records.{Id, Commit, Volume, Snapshot}
use Rattle.rules.specs.Tables.{Table, get_volume, get_commit, latest, volumes_formed, commits_formed}
use Rattle.rules.specs.Snapshots.{watermark_of, remote_of, below, after, remote_path, empty_snapshot, remote_to, remote_snapshot, local_snapshot, snapshot_by, snapshot_of, snapshot}
use Rattle.rules.proofs.TableLaws.{and_both}
use Rattle.layout.specs.Lent.{lent}
use Rattle.layout.specs.Tables.{volumes_in, volumes_ok, commits_in, commits_ok}
use Rattle.layout.proofs.LentLaws.{lent_no, lent_yes}
use Rattle.rows.specs.Lookups.{nth}
use Rattle.rows.proofs.Rows.{formed_rules}
use Rattle.rows.proofs.Tables.{volumes, commits}
use Rattle.volume.specs.Volumes.{volume_says}
use Rattle.volume.specs.Snapshots.{range_says, laid, laid_answer}
use Rattle.volume.specs.declared.volume.Volume.{Volume as CodeVolume}
use Rattle.volume.specs.declared.snapshot.LogRange.{LogRange}
use Rattle.volume.specs.declared.snapshot.Snapshot.{Snapshot as CodeSnapshot}
use Rattle.volumebytes.specs.Laid.{volume_laid}
use Rattle.volumebytes.proofs.RoundLaws.{says_laid}
use Rattle.volumecalls.proofs.Ends.{made_of}

-- ---- ranges put into the snapshot of none

module _ (s : CodeSnapshot) (count : ℕ) (e : s ≡ laid (record { path = []; count = count })) where
  pub one_laid : (a : LogRange) → ◌≡◌ {A = CodeSnapshot} (record { len = 1; path = set s.path 0 a; count = record { 0 = count } }) (laid (record { path = range_says a ∷ []; count = count }))
  unfolding laid
  one_laid a = ap (λ (z : CodeSnapshot). record { len = 1; path = set z.path 0 a; count = record { 0 = count } }) e

  pub two_laid : (a b : LogRange)
      → ◌≡◌ {A = CodeSnapshot} (record { len = 2; path = set (set s.path 0 a) 1 b; count = record { 0 = count } }) (laid (record { path = range_says a ∷ range_says b ∷ []; count = count }))
  unfolding laid
  two_laid a b = ap (λ (z : CodeSnapshot). record { len = 2; path = set (set z.path 0 a) 1 b; count = record { 0 = count } }) e

-- ---- the remote alone: y is sync.remote

module _ (cs : Table Commit) (v : Volume) (y : Option ℕ) where
  -- there is no sync
  pub not_synced : none ≡ y → empty_snapshot ≡ remote_snapshot cs v y
  not_synced e = ap (remote_snapshot cs v) e

  module _ (n : ℕ) (e : some n ≡ y) where
    -- the commit at sync.remote is not stored
    pub not_stored : none ≡ get_commit cs v.remote n → empty_snapshot ≡ remote_snapshot cs v y
    not_stored g = ap (remote_to v) g ∙ ap (remote_snapshot cs v) e

    -- it is
    pub stored : (c : Commit) → some c ≡ get_commit cs v.remote n → (end count : ℕ) → end ≡ c.lsn → count ≡ c.count
        → record { path = record { log = v.remote; start = 1; end = end } ∷ []; count = count } ≡ remote_snapshot cs v y
    stored c g end count p q =
        ap₂ (λ (a b : ℕ). record { path = record { log = v.remote; start = 1; end = a } ∷ []; count = b }) p q ∙ ap (remote_to v) g ∙ ap (remote_snapshot cs v) e

-- ---- a volume's snapshot

module _ (cs : Table Commit) (v : Volume) where
  -- the local log has no commit
  pub no_local : none ≡ latest cs v.local → remote_snapshot cs v (remote_of v.sync) ≡ snapshot_of cs v
  unfolding snapshot_of
  no_local e = ap (snapshot_by cs v) e

  -- its latest is c
  module _ (c : Commit) (e : some c ≡ latest cs v.local) (end : ℕ) (p : end ≡ c.lsn) where
    by_watermark : (b : Bool) → below (watermark_of v.sync) end ≡ b → cond b (local_snapshot v c) (remote_snapshot cs v (remote_of v.sync)) ≡ snapshot_of cs v
    unfolding snapshot_of
    by_watermark b h =
        ap (λ (x : Bool). cond x (local_snapshot v c) (remote_snapshot cs v (remote_of v.sync))) (sym h ∙ ap (below (watermark_of v.sync)) p) ∙ ap (snapshot_by cs v) e

    -- the watermark is not below it
    pub all_pushed : below (watermark_of v.sync) end ≡ false → remote_snapshot cs v (remote_of v.sync) ≡ snapshot_of cs v
    all_pushed h = by_watermark false h

    -- it is, or is missing
    pub local_first : below (watermark_of v.sync) end ≡ true → (start count : ℕ) → start ≡ after (watermark_of v.sync) → count ≡ c.count → (o : Option ℕ) → o ≡ remote_of v.sync
        → record { path = record { log = v.local; start = start; end = end } ∷ remote_path v o; count = count } ≡ snapshot_of cs v
    local_first h start count q r o g =
        ap₂ (λ (a b : ℕ). record { path = record { log = v.local; start = a; end = b } ∷ remote_path v o; count = count }) q p
        ∙ ap₂ (λ (a : ℕ) (x : Option ℕ). record { path = record { log = v.local; start = after (watermark_of v.sync); end = c.lsn } ∷ remote_path v x; count = a }) r g
        ∙ by_watermark true h

-- ---- a call that is lent volumes and commits

module _ (t u : List ℕ) where
  module _ {A : Type 0} (a : Answer A) where
    pub no_volumes : volumes_ok t ≡ false → lent (volumes_ok t && commits_ok u) a ≡ refused 20
    no_volumes e = lent_no (volumes_ok t && commits_ok u) a (ap (λ (b : Bool). b && commits_ok u) e)

    pub no_commits : commits_ok u ≡ false → lent (volumes_ok t && commits_ok u) a ≡ refused 20
    no_commits e = lent_no (volumes_ok t && commits_ok u) a (ap (λ (b : Bool). volumes_ok t && b) e ∙ and-false (volumes_ok t))

  module _ (vid : Id) (ok : volumes_ok t ≡ true) (oku : commits_ok u ≡ true) where
    pub formed : (volumes_formed (volumes_in t) && commits_formed (commits_in u)) ≡ true
    formed = and_both (formed_rules volumes t ok) (formed_rules commits u oku)

    seen : Option Volume → Answer Snapshot
    seen o = need o 4 >>= (λ v. done (snapshot_of (commits_in u) v))

    snapshot_is : lent (volumes_ok t && commits_ok u) (snapshot (volumes_in t) (commits_in u) vid) ≡ seen (get_volume (volumes_in t) vid)
    unfolding snapshot seen
    snapshot_is =
        lent_yes (volumes_ok t && commits_ok u) (snapshot (volumes_in t) (commits_in u) vid) (and_both ok oku)
        ∙ ap (λ (b : Bool). ask b 20 >> seen (get_volume (volumes_in t) vid)) formed

    -- 4
    pub no_snapshot : get_volume (volumes_in t) vid ≡ none → refused 4 ≡ lent (volumes_ok t && commits_ok u) (snapshot (volumes_in t) (commits_in u) vid)
    unfolding seen
    no_snapshot e = sym (snapshot_is ∙ ap seen e)

    -- the snapshot s of the volume x that stands at place i
    pub snapshot_found : (i : ℕ) (x : CodeVolume) (s : CodeSnapshot) → nth i (volumes_in t).rows ≡ get_volume (volumes_in t) vid → map volume_laid (nth i (volumes_in t).rows) ≡ some x
        → s ≡ laid (snapshot_of (commits_in u) (volume_says x)) → done s ≡ laid_answer (lent (volumes_ok t && commits_ok u) (snapshot (volumes_in t) (commits_in u) vid))
    unfolding seen
    snapshot_found i x s here read h =
        made_of volume_laid (nth i (volumes_in t).rows) x read (λ v e q.
        ap done (h ∙ ap (λ (z : CodeVolume). laid (snapshot_of (commits_in u) (volume_says z))) (sym q) ∙ ap (λ (w : Volume). laid (snapshot_of (commits_in u) w)) (says_laid v))
        ∙ ap laid_answer (sym (snapshot_is ∙ ap seen (sym here ∙ e))))
