-- What a save stores. Its commit's bytes are a commit in form, so `writecalls` writes the rules' commit; the table of commits after it is formed and is the rules', so
-- the snapshot that is read of it is the rules' too. A snapshot has two ranges at most, so it is in form.
use Rattle.std.proofs.Common.{◌≡◌, ℕ, Bool, true, false, ◌&&◌, List, length, sym, refl, ap, ◌∙◌, ap₂}
use Rattle.octets.specs.Bytes.{put}
use Rattle.octets.proofs.Places as P
use Rattle.basics.specs.Answers.{Answer, refused, done, ask, ◌>>◌}
use Rattle.basics.specs.Orders.{log_lsn}
use Rattle.rules.specs.Records.{Id, Pages, Commit, Volume, commit_key}
use Rattle.rules.specs.Forms.{commit_form}
use Rattle.rules.specs.Tables.{Table, fits, store}
use Rattle.rules.specs.Write.{Logs, write, logs_fit}
use Rattle.rules.specs.Snapshots.{snapshot_of}
use Rattle.rules.specs.Save.{saved_commit, now_present}
use Rattle.rules.proofs.TableLaws.{and_fst}
use Rattle.rules.proofs.Facts.{few_ranges}
use Rattle.layout.specs.Codecs.{in_form}
use Rattle.layout.specs.Values.{snapshot_bytes}
use Rattle.layout.specs.Records.{commit_bytes, checkpoint_bytes, entry_bytes, present_bytes}
use Rattle.layout.specs.Tables.{commits_in, commits_ok, presence_in, laid_over}
use Rattle.layout.specs.Lent.{after}
use Rattle.layout.proofs.HoldLaws.{held_form}
use Rattle.rows.proofs.Rows.{Laid, long_is}
use Rattle.rows.proofs.Stores.{store_holds}
use Rattle.rows.proofs.Tables.{commits}
use Rattle.volume.specs.Snapshots as Snap
use Rattle.volume.specs.declared.snapshot.Snapshot.{Snapshot as CodeSnapshot}
use Rattle.volume.proofs.SnapshotLaws.{laid_says}
use Rattle.arguments.proofs.SnapshotLaws.{laid_formed}
use Rattle.writecalls.specs.Written.{IsCommit, commit_in, logs_in}
use Rattle.savecalls.specs.Saving.{Saved, out_after, Leaves, stored}

-- ---- what is stored

module _ (cs ks es ps out : List ℕ) (v : Volume) (lsn count : ℕ) (sid : Id) (pages : Pages) where
  abbrev new : Commit
  new = saved_commit v lsn count sid pages

  abbrev logs : Logs
  logs = write (logs_in cs ks es) new

  abbrev answer : Answer Saved
  answer = stored (logs_in cs ks es) (presence_in ps) v lsn count sid pages

  by : Bool → Bool → Answer Saved
  by a b = ask (a && b) 19 >> done (snapshot_of logs.commits v, logs, now_present sid pages (presence_in ps))

  is_by : answer ≡ by (logs_fit logs) (fits (now_present sid pages (presence_in ps)))
  unfolding stored by
  is_by = refl

  -- 19
  pub no_logs : false ≡ logs_fit (write (logs_in cs ks es) (saved_commit v lsn count sid pages)) → stored (logs_in cs ks es) (presence_in ps) v lsn count sid pages ≡ refused 19
  unfolding by
  no_logs e = is_by ∙ ap (λ (a : Bool). by a (fits (now_present sid pages (presence_in ps)))) (sym e)

  module _ (one : true ≡ logs_fit (write (logs_in cs ks es) (saved_commit v lsn count sid pages))) where
    pub no_pages : false ≡ fits (now_present sid pages (presence_in ps)) → stored (logs_in cs ks es) (presence_in ps) v lsn count sid pages ≡ refused 19
    unfolding by
    no_pages e = is_by ∙ ap₂ by (sym one) (sym e)

    goes : true ≡ fits (now_present sid pages (presence_in ps)) → answer ≡ done (snapshot_of logs.commits v, logs, now_present sid pages (presence_in ps))
    unfolding by
    goes e = is_by ∙ ap₂ by (sym one) (sym e)

  -- b are the bytes of the new commit
  module _ (f : commit_form (saved_commit v lsn count sid pages) ≡ true) (b : List ℕ) (eb : b ≡ commit_bytes.spell (saved_commit v lsn count sid pages)) where
    pub is_commit : IsCommit b
    is_commit = (ap length eb ∙ long_is commits new f, ap (in_form commit_bytes commit_form) eb ∙ held_form commit_bytes commit_form (commits.holds new f) f)

    reads : commit_in b ≡ new
    reads = ap commit_bytes.read eb ∙ (commits.holds new f).back

    pub same_room : logs_fit (write (logs_in cs ks es) (commit_in b)) ≡ logs_fit (write (logs_in cs ks es) (saved_commit v lsn count sid pages))
    same_room = ap (λ (c : Commit). logs_fit (write (logs_in cs ks es) c)) reads

    -- u is the table of commits after the store
    module _ (ok : commits_ok cs ≡ true) (room : true ≡ logs_fit (write (logs_in cs ks es) (saved_commit v lsn count sid pages)))
        (u : List ℕ) (eu : u ≡ laid_over commit_bytes (write (logs_in cs ks es) (commit_in b)).commits cs) where
      fits_commit_lem : fits (store commit_key log_lsn new (commits_in cs)) ≡ true
      unfolding logs_fit write
      fits_commit_lem = and_fst _ (fits logs.checkpoints) (and_fst _ (fits logs.index) (sym room))

      laid_new : u ≡ laid_over commit_bytes (store commit_key log_lsn new (commits_in cs)) cs
      unfolding write
      laid_new = eu ∙ ap (λ (c : Commit). laid_over commit_bytes (write (logs_in cs ks es) c).commits cs) reads

      holds_new : Laid commits (store commit_key log_lsn new (commits_in cs)) cs (laid_over commit_bytes (store commit_key log_lsn new (commits_in cs)) cs)
      holds_new = store_holds commits cs ok new f fits_commit_lem

      pub still_formed : commits_ok u ≡ true
      still_formed = ap commits_ok laid_new ∙ holds_new.again

      table_new : commits_in u ≡ logs.commits
      unfolding write
      table_new = ap commits_in laid_new ∙ holds_new.table

      -- s is the snapshot that is read of it
      module _ (s : CodeSnapshot) (es' : s ≡ Snap.laid (snapshot_of (commits_in u) v)) where
        pub snapshot_formed_lem : Snap.in_form s ≡ true
        snapshot_formed_lem = ap Snap.in_form es' ∙ laid_formed (snapshot_of (commits_in u) v) (few_ranges (commits_in u) v)

        says : Snap.snapshot_says s ≡ snapshot_of logs.commits v
        says = ap Snap.snapshot_says es' ∙ laid_says (snapshot_of (commits_in u) v) ∙ ap (λ (t : Table Commit). snapshot_of t v) table_new

        pub leaves : (x y w z : List ℕ) → length out ≡ 262 → true ≡ fits (now_present sid pages (presence_in ps))
            → x ≡ laid_over checkpoint_bytes (write (logs_in cs ks es) (commit_in b)).checkpoints ks → y ≡ laid_over entry_bytes (write (logs_in cs ks es) (commit_in b)).index es
            → w ≡ laid_over present_bytes (now_present sid pages (presence_in ps)) ps → z ≡ put 0 (snapshot_bytes.spell (Snap.snapshot_says s)) out → length (snapshot_bytes.spell (Snap.snapshot_says s)) ≡ 262
            → Leaves cs ks es ps out (stored (logs_in cs ks es) (presence_in ps) v lsn count sid pages) 0 u x y w z
        unfolding after out_after
        leaves x y w z lo room2 ex ey ew ez lz =
            rw (goes room room2)
            (record {
              number = refl;
              of_commits = eu ∙ ap (λ (c : Commit). laid_over commit_bytes (write (logs_in cs ks es) c).commits cs) reads;
              of_checkpoints = ex ∙ ap (λ (c : Commit). laid_over checkpoint_bytes (write (logs_in cs ks es) c).checkpoints ks) reads;
              of_index = ey ∙ ap (λ (c : Commit). laid_over entry_bytes (write (logs_in cs ks es) c).index es) reads;
              of_presence = ew;
              of_out = ez ∙ P.put_all (snapshot_bytes.spell (Snap.snapshot_says s)) out (lz ∙ sym lo) ∙ ap snapshot_bytes.spell says;
            })
