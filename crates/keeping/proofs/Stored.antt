-- The frame theorem (T5) and what stays formed and exact (T2) over the contract of a call that stores commits. A refusal leaves every byte. An answer's tables are formed (rules `Kept`) and of the same rooms (`Rooms`), so the bytes that
-- they are laid over hold them, and the tables afterwards are the rule's: the rules' theorems speak of them.
use Rattle.std.proofs.Common.{◌≡◌, ℕ, Bool, true, ◌⊎◌, ◌↔◌, List, sym, refl, ap, ◌∙◌, subst, inl, inr, ⊎_elim}
use Prim.Native.Nat.{Ordering}
use Rattle.basics.specs.Answers.{Answer, refused, done}
use Rattle.rules.specs.Records.{Volume}
use Rattle.rules.specs.Tables.{Table, formed, volumes_formed, commits_formed, checkpoints_formed, index_formed}
use Rattle.rules.specs.Write.{Logs, logs_formed}
use Rattle.rules.specs.Demand.{Exact, NoPageLost}
use Rattle.rules.specs.Calls.{Tables, Change, empty, does, well_formed, typed}
use Rattle.rules.proofs.TableLaws.{and_fst, and_snd, and_both}
use Rattle.rules.proofs.Kept.{kept}
use Rattle.rules.proofs.Index.{exact_kept}
use Rattle.layout.specs.Codecs.{Codec}
use Rattle.layout.specs.Records.{volume_bytes, commit_bytes, checkpoint_bytes, entry_bytes}
use Rattle.layout.specs.Tables.{formed_in, table_in, volumes_in, volumes_ok, commits_ok, checkpoints_ok, index_ok}
use Rattle.layout.specs.Lent.{after}
use Rattle.rows.proofs.Rows.{Layout, Laid, formed_two, formed_rules, laid_holds}
use Rattle.rows.proofs.Tables as Layouts
use Rattle.writecalls.specs.Written.{logs_in, logs_ok}
use Rattle.writecalls.proofs.Formed.{each_ok, logs_formed_lem}
use Rattle.keeping.specs.Frame.{Keeps}
use Rattle.keeping.specs.Holding.{volumes_and_logs, logs_alone}
use Rattle.keeping.specs.Stays.{StaysFormed, LogsStayFormed}
use Rattle.keeping.proofs.Kept.{does_keeps, same_keeps}
use Rattle.keeping.proofs.Rules.{no_volumes, no_presence, no_tags}
use Rattle.keeping.proofs.Rooms.{SameRooms, BothRooms}

-- the tables u after a call on t: as they were, or the rule's
abbrev pub Follows : Tables → Change → Tables → Type 0
Follows t c u = (u ≡ t) ⊎ (u ≡ (does t c).1)

module _ (t : Tables) (c : Change) (u : Tables) where
  pub follows_keeps : Follows t c u → Keeps t c u
  follows_keeps f = ⊎_elim (λ e. subst (λ (x : Tables). Keeps t c x) (sym e) (same_keeps t c)) (λ e. subst (λ (x : Tables). Keeps t c x) (sym e) (does_keeps t c)) f

  -- a rule that loses no page leaves the index exact
  pub follows_lossless : Follows t c u → NoPageLost t.logs.commits (does t c).1.logs.commits → Exact t.logs.commits t.logs.index → Exact u.logs.commits u.logs.index
  follows_lossless f lost exact =
      ⊎_elim (λ e. subst (λ (x : Tables). Exact x.logs.commits x.logs.index) (sym e) exact)
      (λ e. subst (λ (x : Tables). Exact x.logs.commits x.logs.index) (sym e) (exact_kept t c exact lost)) f

  lossless_exact : Follows t c u → Exact t.logs.commits t.logs.index → NoPageLost t.logs.commits u.logs.commits → Exact u.logs.commits u.logs.index
  lossless_exact f exact lost =
      ⊎_elim (λ e. subst (λ (x : Tables). Exact x.logs.commits x.logs.index) (sym e) exact)
      (λ e. follows_lossless (inr e) (subst (λ (x : Tables). NoPageLost t.logs.commits x.logs.commits) e lost) exact) f

  -- an index entry stays, so an index that is exact afterwards shows that no page was lost
  exact_lossless : Follows t c u → Exact t.logs.commits t.logs.index → Exact u.logs.commits u.logs.index → NoPageLost t.logs.commits u.logs.commits
  exact_lossless f exact later log p lsn h = sym (later log p lsn) ∙ (follows_keeps f).entry_stays log p lsn (exact log p lsn ∙ h)

  pub follows_exact : Follows t c u → Exact t.logs.commits t.logs.index → Exact u.logs.commits u.logs.index ↔ NoPageLost t.logs.commits u.logs.commits
  follows_exact f exact = (exact_lossless f exact, lossless_exact f exact)

-- ---- one table: `was` and `left` are its bytes before and after a call that answers a

module _ {R K : Type 0} {c : Codec R} {s k : ℕ} {form : R → Bool} {key : R → K} {order : K → K → Ordering} (L : Layout c s k form key order) {A : Type 0} (a : Answer A) (table : A → Table R) (was left : List ℕ)
    (e : left ≡ after c table was a) where
  after_refused : (n : ℕ) → a ≡ refused n → left ≡ was
  unfolding after
  after_refused n q = e ∙ ap (after c table was) q

  after_done : (x : A) → a ≡ done x → formed_in c k form was ≡ true → formed key order form (table x) ≡ true → (table x).room ≡ (table_in c was).room → Laid L (table x) was left
  unfolding after
  after_done x q f g h = subst (λ (b : List ℕ). Laid L (table x) was b) (sym (e ∙ ap (after c table was) q)) (laid_holds L (table x) was g h (formed_two L was f))

stays_same : (ok : List ℕ → Bool) (was left : List ℕ) → left ≡ was → StaysFormed ok was left
stays_same ok was left e f = ap ok e ∙ f

-- ---- the six tables, of those that are lent

module _ (vs : Table Volume) (g : Logs) where
  well_lent : volumes_formed vs ≡ true → logs_formed g ≡ true → well_formed (volumes_and_logs vs g) ≡ true
  unfolding well_formed
  well_lent v l = and_both (and_both (and_both v l) no_presence) no_tags

  volumes_of : well_formed (volumes_and_logs vs g) ≡ true → volumes_formed vs ≡ true
  unfolding well_formed
  volumes_of w = search (and_fst, and_snd)

  logs_of : well_formed (volumes_and_logs vs g) ≡ true → logs_formed g ≡ true
  unfolding well_formed
  logs_of w = search (and_fst, and_snd)

record ThreeFormed (g : Logs) : Type 0 where
  of_commits : commits_formed g.commits ≡ true
  of_checkpoints : checkpoints_formed g.checkpoints ≡ true
  of_index : index_formed g.index ≡ true

three : (g : Logs) → logs_formed g ≡ true → ThreeFormed g
unfolding logs_formed
three g f = record { of_commits = search (and_fst, and_snd); of_checkpoints = search (and_fst, and_snd); of_index = search (and_fst, and_snd) }

-- ---- the three tables of commits: their bytes before and after the call, as its contract has them

module _ {A : Type 0} (a : Answer A) (logs : A → Logs) (cs ks es cs' ks' es' : List ℕ) (of_commits : cs' ≡ after commit_bytes (λ (x : A). (logs x).commits) cs a)
    (of_checkpoints : ks' ≡ after checkpoint_bytes (λ (x : A). (logs x).checkpoints) ks a) (of_index : es' ≡ after entry_bytes (λ (x : A). (logs x).index) es a) where
  -- what becomes of them
  record LogsLeft (g : Logs) : Type 0 where
    holds : logs_in cs' ks' es' ≡ g
    formed_still : LogsStayFormed cs ks es cs' ks' es'

  logs_refused : (n : ℕ) → a ≡ refused n → LogsLeft (logs_in cs ks es)
  logs_refused n q =
      let x = after_refused Layouts.commits a _ cs cs' of_commits n q in
      let y = after_refused Layouts.checkpoints a _ ks ks' of_checkpoints n q in
      let z = after_refused Layouts.index a _ es es' of_index n q in
      record { holds = λ i. logs_in (x i) (y i) (z i); formed_still = record { of_commits = stays_same commits_ok cs cs' x; of_checkpoints = stays_same checkpoints_ok ks ks' y; of_index = stays_same index_ok es es' z } }

  logs_done : (x : A) → a ≡ done x → logs_ok cs ks es ≡ true → logs_formed (logs x) ≡ true → SameRooms (logs x) (logs_in cs ks es) → LogsLeft (logs x)
  logs_done x q ok f room =
      let o = each_ok cs ks es ok in
      let t = three (logs x) f in
      let u = after_done Layouts.commits a (λ (y : A). (logs y).commits) cs cs' of_commits x q o.0 t.of_commits room.of_commits in
      let v = after_done Layouts.checkpoints a (λ (y : A). (logs y).checkpoints) ks ks' of_checkpoints x q o.1 t.of_checkpoints room.of_checkpoints in
      let w = after_done Layouts.index a (λ (y : A). (logs y).index) es es' of_index x q o.2 t.of_index room.of_index in
      let p = u.table in
      let r = v.table in
      let s = w.table in
      record { holds = λ i. record { commits = p i; checkpoints = r i; index = s i }; formed_still = record { of_commits = λ h. u.again; of_checkpoints = λ h. v.again; of_index = λ h. w.again } }

  -- the call is lent these alone
  module _ (call : Change) where
    abbrev was : Tables
    was = logs_alone (logs_in cs ks es)

    -- what is to be known of an answer x
    pub record LogsRuled (x : A) : Type 0 where
      pub lent_formed : logs_ok cs ks es ≡ true
      pub types : typed call ≡ true
      pub is : (does was call).1 ≡ logs_alone (logs x)
      pub rooms : SameRooms (logs x) (logs_in cs ks es)

    pub record LogsKept : Type 0 where
      pub follows : Follows was call (logs_alone (logs_in cs' ks' es'))
      pub formed_still : LogsStayFormed cs ks es cs' ks' es'

    pub logs_kept : ((x : A) → a ≡ done x → LogsRuled x) → LogsKept
    logs_kept rule = go a refl
      where
        go : (b : Answer A) → a ≡ b → LogsKept
        go (refused n) q = let l = logs_refused n q in record { follows = inl (ap logs_alone l.holds); formed_still = l.formed_still }
        go (done x) q =
            let r = rule x q in
            let w = well_lent (empty 0) (logs_in cs ks es) no_volumes (logs_formed_lem cs ks es r.lent_formed) in
            let f = logs_of (empty 0) (logs x) (ap well_formed (sym r.is) ∙ kept was call r.types w) in
            let l = logs_done x q r.lent_formed f r.rooms in
            record { follows = inr (ap logs_alone l.holds ∙ sym r.is); formed_still = l.formed_still }

  -- it is lent volumes too
  module _ (volumes : A → Table Volume) (vs vs' : List ℕ) (of_volumes : vs' ≡ after volume_bytes volumes vs a) (call : Change) where
    abbrev before : Tables
    before = volumes_and_logs (volumes_in vs) (logs_in cs ks es)

    pub record Ruled (x : A) : Type 0 where
      pub volumes_formed : volumes_ok vs ≡ true
      pub lent_formed : logs_ok cs ks es ≡ true
      pub types : typed call ≡ true
      pub is : (does before call).1 ≡ volumes_and_logs (volumes x) (logs x)
      pub rooms : BothRooms (volumes_in vs) (logs_in cs ks es) (volumes x, logs x)

    pub record BothKept : Type 0 where
      pub follows : Follows before call (volumes_and_logs (volumes_in vs') (logs_in cs' ks' es'))
      pub volumes_still : StaysFormed volumes_ok vs vs'
      pub formed_still : LogsStayFormed cs ks es cs' ks' es'

    pub both_kept : ((x : A) → a ≡ done x → Ruled x) → BothKept
    both_kept rule = go a refl
      where
        go : (b : Answer A) → a ≡ b → BothKept
        go (refused n) q =
            let l = logs_refused n q in
            let v = after_refused Layouts.volumes a volumes vs vs' of_volumes n q in
            let h = l.holds in
            record { follows = inl (λ i. volumes_and_logs (volumes_in (v i)) (h i)); volumes_still = stays_same volumes_ok vs vs' v; formed_still = l.formed_still }
        go (done x) q =
            let r = rule x q in
            let w = well_lent (volumes_in vs) (logs_in cs ks es) (formed_rules Layouts.volumes vs r.volumes_formed) (logs_formed_lem cs ks es r.lent_formed) in
            let f = ap well_formed (sym r.is) ∙ kept before call r.types w in
            let l = logs_done x q r.lent_formed (logs_of (volumes x) (logs x) f) r.rooms.of_logs in
            let v = after_done Layouts.volumes a volumes vs vs' of_volumes x q r.volumes_formed (volumes_of (volumes x) (logs x) f) r.rooms.of_volumes in
            let p = v.table in
            let h = l.holds in
            record { follows = inr ((λ i. volumes_and_logs (p i) (h i)) ∙ sym r.is); volumes_still = λ z. v.again; formed_still = l.formed_still }
