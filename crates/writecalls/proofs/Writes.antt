-- A commit written is three stores, one in each table: room for it is room for the three, asked one after another, and each table's bytes are its own store's.
use Rattle.std.proofs.Common.{◌≡◌, ℕ, ◌+◌, Bool, true, false, ◌&&◌, List, map, Result, Ok, Err, is_ok, sym, refl, ap, ◌∙◌, ap₂}
use Rattle.basics.specs.Answers.{Answer, refused, done, ask, ◌>>◌}
use Rattle.basics.specs.declared.refusal.Refusal.{Refusal}
use Rattle.basics.specs.Orders.{log_lsn, log_page_lsn}
use Rattle.rules.specs.Records.{commit_key, checkpoint_key, entry_key}
use Rattle.rules.specs.Forms.{commit_form}
use Rattle.rules.specs.Tables.{fits, store, store_all}
use Rattle.rules.specs.Write.{Logs, checkpoints_of, entries_of, write, logs_fit}
use Rattle.rules.proofs.TableLaws.{and_fst, and_snd}
use Rattle.rules.proofs.AnswerLaws.{refused_done}
use Rattle.table.specs.Records as T
use Rattle.table.specs.Table.{count_of, recs, laid, holds}
use Rattle.table.specs.Table as B
use Rattle.layout.specs.Records.{commit_bytes, checkpoint_bytes, entry_bytes}
use Rattle.layout.specs.Tables.{commits_in, commits_ok, checkpoints_in, index_in, index_ok, laid_over}
use Rattle.layout.proofs.HoldLaws.{in_form_lem}
use Rattle.rows.proofs.Stores.{put_fits, put_laid}
use Rattle.rows.proofs.Tables.{commits, index}
use Rattle.writecalls.specs.Written.{IsCommit, commit_in, logs_in, fresh_in, roomed, plan_says, planned}
use Rattle.rules.proofs.Write.{entries_form}
use Rattle.rows.proofs.News.{rows_room}
use Rattle.writecalls.proofs.Rows.{is_form}

-- ---- the commit itself: its bytes are its record

module _ (t b : List ℕ) (good : commits_ok t ≡ true) (ok : IsCommit b) where
  spelled : b ≡ commit_bytes.spell (commit_in b)
  spelled = sym (in_form_lem commit_bytes commit_form b ok.1).0

  pub commit_fits : B.fits 722 (T.put 25 b (recs 722 t)) t ≡ fits (store commit_key log_lsn (commit_in b) (commits_in t))
  commit_fits = ap (λ (x : List ℕ). B.fits 722 (T.put 25 x (recs 722 t)) t) spelled ∙ put_fits commits t good (commit_in b) (is_form b ok)

  pub commit_laid_lem : laid (T.put 25 b (recs 722 t)) t ≡ laid_over commit_bytes (store commit_key log_lsn (commit_in b) (commits_in t)) t
  commit_laid_lem = ap (λ (x : List ℕ). laid (T.put 25 x (recs 722 t)) t) spelled ∙ put_laid commits t good (commit_in b) (is_form b ok)

-- ---- its index entries: room for the new ones is room for the store

pub fresh_room : (t b : List ℕ) → index_ok t ≡ true → IsCommit b → (r : Bool) (n : ℕ) → n ≡ fresh_in t (commit_in b) → r ≡ holds 29 (count_of t + n) t
    → r ≡ fits (store_all entry_key log_page_lsn (entries_of (commit_in b)) (index_in t))
fresh_room t b good ok r n en e = rows_room index t good (entries_of (commit_in b)) (entries_form (commit_in b) (is_form b ok)) (map entry_bytes.spell (entries_of (commit_in b))) refl r n en e

-- ---- the three tables

module _ (cs ks es b : List ℕ) where
  abbrev fits_commit : Bool
  fits_commit = fits (store commit_key log_lsn (commit_in b) (commits_in cs))

  abbrev fit_checkpoints : Bool
  fit_checkpoints = fits (store_all checkpoint_key log_lsn (checkpoints_of (commit_in b)) (checkpoints_in ks))

  abbrev fit_entries : Bool
  fit_entries = fits (store_all entry_key log_page_lsn (entries_of (commit_in b)) (index_in es))

  abbrev fit : Bool
  fit = logs_fit (write (logs_in cs ks es) (commit_in b))

  fit_is : fit ≡ (fits_commit && fit_checkpoints && fit_entries)
  unfolding logs_fit write
  fit_is = refl

  -- no room for the commit
  pub no_commit : fits_commit ≡ false → false ≡ fit
  no_commit e = sym (fit_is ∙ ap (λ (x : Bool). x && fit_checkpoints && fit_entries) e)

  module _ (one : fits_commit ≡ true) where
    -- none for its checkpoints
    pub no_checkpoints : fit_checkpoints ≡ false → false ≡ fit
    no_checkpoints e = sym (fit_is ∙ ap₂ (λ (x y : Bool). x && y && fit_entries) one e)

    -- else its entries decide
    pub entries_decide : fit_checkpoints ≡ true → fit_entries ≡ fit
    entries_decide e = sym (fit_is ∙ ap₂ (λ (x y : Bool). x && y && fit_entries) one e)

  -- the plan by room
  abbrev made : Logs
  made = write (logs_in cs ks es) (commit_in b)

  plan_by : Bool → ℕ → Answer ℕ
  plan_by x k = planned (ask x 19 >> done made) k

  pub plan_full : fit ≡ false → (k : ℕ) → refused 19 ≡ planned (roomed made) k
  unfolding plan_by
  plan_full e k = ap (λ (x : Bool). plan_by x k) (sym e)

  pub plan_room : fit ≡ true → (k n : ℕ) → n ≡ k → done n ≡ planned (roomed made) k
  unfolding plan_by
  plan_room e k n h = ap (plan_by true) h ∙ ap (λ (x : Bool). plan_by x k) (sym e)

  -- and a plan that it is has no refusal exactly where there is room
  pub room_is : (p : Result ℕ Refusal) (k : ℕ) → plan_says p ≡ planned (roomed made) k → is_ok p ≡ fit
  unfolding plan_by
  room_is p k e = go p fit e
    where
      go : (q : Result ℕ Refusal) (x : Bool) → plan_says q ≡ plan_by x k → is_ok q ≡ x
      go (Ok n) true h = refl
      go (Ok n) false h = refused_done (sym h)
      go (Err r) true h = refused_done h
      go (Err r) false h = refl

  -- where there is room for all, there is for each
  module _ (all : fit ≡ true) where
    two : (fits_commit && fit_checkpoints) ≡ true
    two = and_fst (fits_commit && fit_checkpoints) fit_entries (sym fit_is ∙ all)

    pub commit_room : fits_commit ≡ true
    commit_room = and_fst fits_commit fit_checkpoints two

    pub checkpoints_room : fit_checkpoints ≡ true
    checkpoints_room = and_snd fits_commit fit_checkpoints two

    pub entries_room : fit_entries ≡ true
    entries_room = and_snd (fits_commit && fit_checkpoints) fit_entries (sym fit_is ∙ all)

  -- the tables of a write are the three stores
  pub written : (u v w : List ℕ) → u ≡ laid_over commit_bytes (store commit_key log_lsn (commit_in b) (commits_in cs)) cs
      → v ≡ laid_over checkpoint_bytes (store_all checkpoint_key log_lsn (checkpoints_of (commit_in b)) (checkpoints_in ks)) ks
      → w ≡ laid_over entry_bytes (store_all entry_key log_page_lsn (entries_of (commit_in b)) (index_in es)) es
      → (u ≡ laid_over commit_bytes (write (logs_in cs ks es) (commit_in b)).commits cs)
      × ((v ≡ laid_over checkpoint_bytes (write (logs_in cs ks es) (commit_in b)).checkpoints ks)
      × (w ≡ laid_over entry_bytes (write (logs_in cs ks es) (commit_in b)).index es))
  unfolding write
  written u v w p q r = (p, (q, r))
