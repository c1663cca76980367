-- Copies written one after another. The invariant (`Copying`): what is left of the path gives the commits to come, since the log that they are written to is named by no range left; in each of
-- the three tables what they add is still to be stored on the way to the table at the end (`Storing`); k counts them. It starts with all commits of the path, a write takes one off, and with none left the
-- tables are those of the rule's `write_all`, laid over the bytes at entry.
use Rattle.std.proofs.Common.{◌≡◌, ℕ, suc, ◌+◌, Bool, true, ◌&&◌, List, [], ◌∷◌, ◌++◌, length, sym, refl, ap, ◌∙◌, subst, arith}
use Rattle.octets.specs.Bytes.{AreBytes}
use Rattle.basics.specs.Orders.{log_lsn, log_page_lsn}
use Rattle.rules.specs.Lists.{all}
use Rattle.rules.specs.Records.{Id, Commit, Checkpoint, Entry, commit_key, checkpoint_key, entry_key}
use Rattle.rules.specs.Forms.{commit_form, checkpoint_form, entry_form}
use Rattle.rules.specs.Tables.{Table, fits, store, store_all, put_all}
use Rattle.rules.specs.Write.{checkpoints_of, entries_of, write, write_all, logs_fit}
use Rattle.rules.specs.Room.{each}
use Rattle.rules.specs.Walk.{path_commits}
use Rattle.rules.specs.Copies.{renumbered}
use Rattle.rules.proofs.TableLaws.{and_fst, and_snd, and_both, all_append}
use Rattle.rules.proofs.Write.{entries_form, checkpoints_form}
use Rattle.rules.proofs.Kept.{path_forms, renumbered_forms}
use Rattle.rules.proofs.RoomOfCalls.{commits_all, checkpoints_all, index_all}
use Rattle.layout.specs.Records.{commit_bytes, checkpoint_bytes, entry_bytes}
use Rattle.layout.specs.Tables.{commits_in, commits_ok, checkpoints_in, checkpoints_ok, index_in, index_ok, laid_over}
use Rattle.layout.proofs.PlaceLaws.{id_form_lem}
use Rattle.rows.proofs.Puts.{Storing, storing_start, storing_many, many_fits, many_table, storing_end}
use Rattle.rows.proofs.Rows.{formed_forms}
use Rattle.rows.proofs.Tables.{commits, checkpoints, index}
use Rattle.commits.specs.Places.{commit_at}
use Rattle.writecalls.specs.Written.{commit_in, logs_in}
use Rattle.paths.specs.Left.{other_log, is_left, left_says, Meets}
use Rattle.paths.specs.declared.Left.{Left}
use Rattle.paths.specs.declared.Met.{Met}
use Rattle.paths.proofs.PathLaws.{path_other}
use Rattle.paths.proofs.LeftLaws.{left_small}
use Rattle.copies.specs.Copied.{renumber}

-- ---- forms

each_forms : {A B : Type 0} (f : A → List B) (good : A → Bool) (form : B → Bool) → ((x : A) → good x ≡ true → all form (f x) ≡ true) → (l : List A) → all good l ≡ true → all form (each f l) ≡ true
unfolding all each
each_forms f good form k [] a = refl
each_forms f good form k (x ∷ xs) a =
    all_append form (f x) (each f xs) ∙ and_both (k x (and_fst (good x) (all good xs) a)) (each_forms f good form k xs (and_snd (good x) (all good xs) a))

-- ---- the invariant

-- the commits to come, and what they add to each table
pub record Copying (log : Id) (wc : Table Commit) (wk : Table Checkpoint) (we : Table Entry) (cs₀ ks₀ es₀ cs ks es : List ℕ) (rest : Left) (k : ℕ) : Type 0 where
  pub in_commits : Storing commits (renumbered log (path_commits (commits_in cs) (left_says rest))) cs₀ wc cs
  pub in_checkpoints : Storing checkpoints (each checkpoints_of (renumbered log (path_commits (commits_in cs) (left_says rest)))) ks₀ wk ks
  pub in_index : Storing index (each entries_of (renumbered log (path_commits (commits_in cs) (left_says rest)))) es₀ we es
  pub is_left : is_left rest
  pub count : k ≡ length (path_commits (commits_in cs) (left_says rest))
  pub others : all (other_log log) (left_says rest) ≡ true

module _ (log : Id) (wc : Table Commit) (wk : Table Checkpoint) (we : Table Entry) (cs₀ ks₀ es₀ cs ks es : List ℕ) (rest : Left) (k : ℕ) (h : Copying log wc wk we cs₀ ks₀ es₀ cs ks es rest k) where
  module _ (m : Met) (meets : Meets cs rest m) where
    -- the copy to come, and those after it
    abbrev x : Commit
    x = renumber log k (commit_at cs m.row)

    abbrev after : List Commit
    after = renumbered log (path_commits (commits_in cs) (left_says m.left))

    is_next : k ≡ suc (length (path_commits (commits_in cs) (left_says m.left)))
    is_next = h.count ∙ ap (length {A = Commit}) meets.here

    coming : renumbered log (path_commits (commits_in cs) (left_says rest)) ≡ renumber log k (commit_at cs m.row) ∷ renumbered log (path_commits (commits_in cs) (left_says m.left))
    coming =
        ap (renumbered log) meets.here
        ∙ ap (λ (n : ℕ). renumber log n (commit_at cs m.row) ∷ renumbered log (path_commits (commits_in cs) (left_says m.left))) (sym is_next)

    c_next : Storing commits ((renumber log k (commit_at cs m.row) ∷ []) ++ renumbered log (path_commits (commits_in cs) (left_says m.left))) cs₀ wc cs
    c_next = subst (λ (l : List Commit). Storing commits l cs₀ wc cs) coming h.in_commits

    k_next : Storing checkpoints (checkpoints_of (renumber log k (commit_at cs m.row)) ++ each checkpoints_of (renumbered log (path_commits (commits_in cs) (left_says m.left)))) ks₀ wk ks
    unfolding each
    k_next = subst (λ (l : List Commit). Storing checkpoints (each checkpoints_of l) ks₀ wk ks) coming h.in_checkpoints

    e_next : Storing index (entries_of (renumber log k (commit_at cs m.row)) ++ each entries_of (renumbered log (path_commits (commits_in cs) (left_says m.left)))) es₀ we es
    unfolding each
    e_next = subst (λ (l : List Commit). Storing index (each entries_of l) es₀ we es) coming h.in_index

    module _ (b : List ℕ) (is : commit_in b ≡ renumber log k (commit_at cs m.row)) where
      -- there is room for it
      pub copy_fits : logs_fit (write (logs_in cs ks es) (commit_in b)) ≡ true
      unfolding logs_fit write put_all
      copy_fits =
          ap (λ (c : Commit). logs_fit (write (logs_in cs ks es) c)) is
          ∙ and_both (and_both (many_fits commits (x ∷ []) after cs₀ wc cs c_next) (many_fits checkpoints (checkpoints_of x) (each checkpoints_of after) ks₀ wk ks k_next)) (many_fits index (entries_of x) (each entries_of after) es₀ we es e_next)

      -- and after its write the others are to come
      pub copying_next : (u v w : List ℕ) → u ≡ laid_over commit_bytes (write (logs_in cs ks es) (commit_in b)).commits cs
          → v ≡ laid_over checkpoint_bytes (write (logs_in cs ks es) (commit_in b)).checkpoints ks
          → w ≡ laid_over entry_bytes (write (logs_in cs ks es) (commit_in b)).index es → (j : ℕ) → j + 1 ≡ k
          → Copying log wc wk we cs₀ ks₀ es₀ u v w m.left j
      unfolding write put_all
      copying_next u v w eu ev ew j ej =
          let du : u ≡ laid_over commit_bytes (store_all commit_key log_lsn (renumber log k (commit_at cs m.row) ∷ []) (commits_in cs)) cs = eu ∙ ap (λ (c : Commit). laid_over commit_bytes (store commit_key log_lsn c (commits_in cs)) cs) is in
          let dv : v ≡ laid_over checkpoint_bytes (store_all checkpoint_key log_lsn (checkpoints_of (renumber log k (commit_at cs m.row))) (checkpoints_in ks)) ks = ev ∙ ap (λ (c : Commit). laid_over checkpoint_bytes (store_all checkpoint_key log_lsn (checkpoints_of c) (checkpoints_in ks)) ks) is in
          let dw : w ≡ laid_over entry_bytes (store_all entry_key log_page_lsn (entries_of (renumber log k (commit_at cs m.row))) (index_in es)) es = ew ∙ ap (λ (c : Commit). laid_over entry_bytes (store_all entry_key log_page_lsn (entries_of c) (index_in es)) es) is in
          let o = meets.others log h.others in
          let same : path_commits (commits_in u) (left_says m.left) ≡ path_commits (commits_in cs) (left_says m.left) =
          ap (λ (t : Table Commit). path_commits t (left_says m.left)) (many_table commits (x ∷ []) after cs₀ wc cs c_next u du)
          ∙ path_other (commits_in cs) (renumber log k (commit_at cs m.row)) (left_says m.left) o in
          record {
            in_commits = subst (λ (l : List Commit). Storing commits (renumbered log l) cs₀ wc u) (sym same) (storing_many commits (x ∷ []) after cs₀ wc cs c_next u du);
            in_checkpoints = subst (λ (l : List Commit). Storing checkpoints (each checkpoints_of (renumbered log l)) ks₀ wk v) (sym same) (storing_many checkpoints (checkpoints_of x) (each checkpoints_of after) ks₀ wk ks k_next v dv);
            in_index = subst (λ (l : List Commit). Storing index (each entries_of (renumbered log l)) es₀ we w) (sym same) (storing_many index (entries_of x) (each entries_of after) es₀ we es e_next w dw);
            is_left = meets.is_left;
            count = omega (arith, is_next, ej, ap (length {A = Commit}) same);
            others = o;
          }

-- ---- the start

module _ (cs ks es : List ℕ) (left : Left) (log : Id) where
  -- the commits that the path gives, renumbered
  abbrev pub copies : List Commit
  copies = renumbered log (path_commits (commits_in cs) (left_says left))

  -- the tables with all of them
  abbrev pub end_commits : Table Commit
  end_commits = store_all commit_key log_lsn copies (commits_in cs)

  abbrev pub end_checkpoints : Table Checkpoint
  end_checkpoints = store_all checkpoint_key log_lsn (each checkpoints_of copies) (checkpoints_in ks)

  abbrev pub end_index : Table Entry
  end_index = store_all entry_key log_page_lsn (each entries_of copies) (index_in es)

  pub fit_parts : logs_fit (write_all (logs_in cs ks es) copies) ≡ (fits end_commits && fits end_checkpoints && fits end_index)
  unfolding logs_fit
  fit_parts = rw (commits_all (logs_in cs ks es) copies, checkpoints_all (logs_in cs ks es) copies, index_all (logs_in cs ks es) copies) refl

  module _ (good : (commits_ok cs ≡ true) × (checkpoints_ok ks ≡ true) × (index_ok es ≡ true)) (long : length left.path ≡ 8) (n : ℕ)
      (todo_is : is_left left × (n ≡ length (path_commits (commits_in cs) (left_says left))) × (all (other_log log) (left_says left) ≡ true))
      (room : logs_fit (write_all (logs_in cs ks es) copies) ≡ true) (id_long : length log ≡ 16) (id_bytes : AreBytes log) where
    copy_forms : all commit_form copies ≡ true
    copy_forms =
        renumbered_forms log (path_commits (commits_in cs) (left_says left)) (id_form_lem log id_long id_bytes) (left_small cs good.0 left long)
        (path_forms (commits_in cs) (left_says left) (formed_forms commits cs good.0))

    two : (fits end_commits && fits end_checkpoints) ≡ true
    two = and_fst (fits end_commits && fits end_checkpoints) (fits end_index) (sym fit_parts ∙ room)

    pub copying_start : Copying log end_commits end_checkpoints end_index cs ks es cs ks es left n
    copying_start = record {
      in_commits = storing_start commits copies cs copy_forms good.0 (and_fst (fits end_commits) (fits end_checkpoints) two);
      in_checkpoints = storing_start checkpoints (each checkpoints_of copies) ks (each_forms checkpoints_of commit_form checkpoint_form checkpoints_form copies copy_forms) good.1 (and_snd (fits end_commits) (fits end_checkpoints) two);
      in_index = storing_start index (each entries_of copies) es (each_forms entries_of commit_form entry_form entries_form copies copy_forms) good.2 (and_snd (fits end_commits && fits end_checkpoints) (fits end_index) (sym fit_parts ∙ room));
      is_left = todo_is.0;
      count = todo_is.1;
      others = todo_is.2;
    }

  -- ---- the end: with none left, the tables are those of the rule
  module _ (u v w : List ℕ) (rest : Left) (h : Copying log end_commits end_checkpoints end_index cs ks es u v w rest 0) (bu : AreBytes u) (bv : AreBytes v) (bw : AreBytes w) where
    none_left : renumbered log (path_commits (commits_in u) (left_says rest)) ≡ []
    none_left = nothing (path_commits (commits_in u) (left_says rest)) h.count
      where
        nothing : (l : List Commit) → 0 ≡ length l → renumbered log l ≡ []
        nothing [] e = refl
        nothing (x ∷ xs) e = absurd (omega (arith, e))

    pub end_commits_lem : u ≡ laid_over commit_bytes (write_all (logs_in cs ks es) copies).commits cs
    end_commits_lem =
        storing_end commits cs end_commits u (subst (λ (l : List Commit). Storing commits l cs end_commits u) none_left h.in_commits) bu
        ∙ ap (λ (t : Table Commit). laid_over commit_bytes t cs) (sym (commits_all (logs_in cs ks es) copies))

    pub end_checkpoints_lem : v ≡ laid_over checkpoint_bytes (write_all (logs_in cs ks es) copies).checkpoints ks
    unfolding each
    end_checkpoints_lem =
        storing_end checkpoints ks end_checkpoints v (subst (λ (l : List Commit). Storing checkpoints (each checkpoints_of l) ks end_checkpoints v) none_left h.in_checkpoints) bv
        ∙ ap (λ (t : Table Checkpoint). laid_over checkpoint_bytes t ks) (sym (checkpoints_all (logs_in cs ks es) copies))

    pub end_index_lem : w ≡ laid_over entry_bytes (write_all (logs_in cs ks es) copies).index es
    unfolding each
    end_index_lem =
        storing_end index es end_index w (subst (λ (l : List Commit). Storing index (each entries_of l) es end_index w) none_left h.in_index) bw
        ∙ ap (λ (t : Table Entry). laid_over entry_bytes t es) (sym (index_all (logs_in cs ks es) copies))
