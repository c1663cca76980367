-- The ends of the calls: each test that the code has passed takes the rule's test away, in the rule's order, so that at each return the rule's answer is what the code answers.
use Rattle.std.proofs.Common.{◌≡◌, ℕ, Bool, true, false, ◌&&◌, eqb, List, map, length, take, sym, ap, ◌∙◌, arith, le-ltb, lt-ltb, eq-eqb, ne_eqb, le-leb, Option as Maybe, Some, None, Ok}
use mathlib.Core.Option.{Option, none, some}
use mathlib.Core.Bool.{and-false}
use Rattle.basics.specs.Answers.{Answer, refused, done}
use Rattle.basics.specs.Numbers.{counts}
use Rattle.basics.specs.Says.{maybe_lsn_says}
use Rattle.basics.specs.declared.lsn.Lsn.{Lsn}
use Rattle.rules.specs.Records.{Id, Commit, Snapshot}
use Rattle.rules.specs.Tables.{commits_formed, index_formed, checkpoint_at}
use Rattle.rules.specs.Arguments.{snapshot_lsns, snapshot_order, snapshot_form}
use Rattle.rules.specs.Search.{search_path, search_page}
use Rattle.rules.specs.Reads.{checkpoint_read}
use Rattle.rules.proofs.TableLaws.{and_both}
use Rattle.layout.specs.Records.{commit_bytes}
use Rattle.layout.specs.Tables.{commits_in, commits_ok, index_in, index_ok, checkpoints_in, checkpoints_ok}
use Rattle.layout.specs.Lent.{lent}
use Rattle.layout.proofs.LentLaws.{lent_no, lent_yes}
use Rattle.rows.proofs.Rows.{formed_rules}
use Rattle.rows.proofs.Tables.{commits, index, checkpoints}
use Rattle.volume.specs.Snapshots.{range_says, snapshot_says, laid}
use Rattle.volume.specs.Volumes.{maybe_lsn_says as found_says}
use Rattle.volume.specs.declared.snapshot.Snapshot.{Snapshot as CodeSnapshot}
use Rattle.lookups.specs.Found.{checkpoint_lsn}
use Rattle.arguments.specs.Snapshots.{snapshot_in, snapshot_formed}
use Rattle.arguments.proofs.SnapshotLaws.{arg_says, in_few}
use Rattle.searchcalls.specs.Searches.{search_in}

-- ---- search

module _ (t u b : List ℕ) (p : ℕ) (out : List ℕ) where
  abbrev answer : Answer (Option Commit)
  answer = lent (commits_ok t && index_ok u) (search_in (commits_in t) (index_in u) b p out)

  -- 20
  pub no_commits : commits_ok t ≡ false → answer ≡ refused 20
  no_commits e = lent_no (commits_ok t && index_ok u) _ (ap (λ (x : Bool). x && index_ok u) e)

  pub no_index : index_ok u ≡ false → answer ≡ refused 20
  no_index e = lent_no (commits_ok t && index_ok u) _ (ap (λ (x : Bool). commits_ok t && x) e ∙ and-false (commits_ok t))

  module _ (ok : commits_ok t ≡ true) (oku : index_ok u ≡ true) where
    past_20 : answer ≡ search_in (commits_in t) (index_in u) b p out
    past_20 = lent_yes (commits_ok t && index_ok u) (search_in (commits_in t) (index_in u) b p out) (and_both ok oku)

    -- 1
    pub zero_lsn : snapshot_lsns (snapshot_in b) ≡ false → answer ≡ refused 1
    unfolding search_in
    zero_lsn a = rw (past_20, a)

    module _ (a : snapshot_lsns (snapshot_in b) ≡ true) where
      pub zero_page : p ≡ 0 → answer ≡ refused 1
      unfolding search_in
      zero_page z = let c : counts p ≡ false = le-ltb 0 p (omega arith) in rw (past_20, a, c)

      module _ (z : p ≡ 0 → ⊥) where
        real : counts p ≡ true
        real = lt-ltb 0 p (omega arith)

        -- 2
        pub start_above : snapshot_order (snapshot_in b) ≡ false → answer ≡ refused 2
        unfolding search_in
        start_above o = rw (past_20, a, real, o)

        module _ (o : snapshot_order (snapshot_in b) ≡ true) where
          -- 3 of the snapshot
          pub no_form : snapshot_formed b ≡ false → answer ≡ refused 3
          unfolding search_in
          no_form f = rw (past_20, a, real, o, f)

          module _ (f : snapshot_formed b ≡ true) where
            -- 3 of the lent place
            pub no_place : (length out ≡ 722 → ⊥) → answer ≡ refused 3
            unfolding search_in
            no_place h =
                let c : eqb (length out) commit_bytes.size ≡ false = ap (eqb (length out)) commits.wide ∙ ne_eqb (length out) 722 h in
                rw (past_20, a, real, o, f, c)

            module _ (h : length out ≡ 722) where
              -- the rule
              pub passed : answer ≡ search_page (commits_in t) (index_in u) (snapshot_in b) p
              unfolding search_in
              passed =
                  let c : eqb (length out) commit_bytes.size ≡ true = ap (eqb (length out)) commits.wide ∙ eq-eqb (length out) 722 h in
                  rw (past_20, a, real, o, f, c)

              -- 21, the commit or nothing
              pub searched : answer ≡ search_path (commits_in t) (index_in u) p (snapshot_in b).path
              unfolding search_page snapshot_form
              searched =
                  let g : (commits_formed (commits_in t) && index_formed (index_in u)) ≡ true = and_both (formed_rules commits t ok) (formed_rules index u oku) in
                  passed ∙ rw (g, a, real, o, le-leb (length (snapshot_in b).path) 8 (in_few b))

-- ---- the snapshot by value that the bytes became

module _ (b : List ℕ) (s : CodeSnapshot) (e : s ≡ laid (snapshot_in b)) where
  -- what the code says of its LSNs and of its order is so of the bytes
  pub arg_lsns : (r : Bool) → r ≡ snapshot_lsns (snapshot_says s) → snapshot_lsns (snapshot_in b) ≡ r
  arg_lsns r h = ap snapshot_lsns (sym (arg_says b s e)) ∙ sym h

  pub arg_order : (r : Bool) → r ≡ snapshot_order (snapshot_says s) → snapshot_order (snapshot_in b) ≡ r
  arg_order r h = ap snapshot_order (sym (arg_says b s e)) ∙ sym h

  -- its ranges are those that the bytes spell
  pub arg_path : map range_says (take s.len s.path) ≡ (snapshot_in b).path
  arg_path = ap (λ (x : Snapshot). x.path) (arg_says b s e)

-- ---- checkpoint lookup

module _ (t : List ℕ) (log : Id) (lsn : ℕ) where
  pub no_checkpoints : checkpoints_ok t ≡ false → refused 20 ≡ lent (checkpoints_ok t) (checkpoint_read (checkpoints_in t) log lsn)
  no_checkpoints e = sym (lent_no (checkpoints_ok t) _ e)

  module _ (ok : checkpoints_ok t ≡ true) where
    pub checkpoint_zero : lsn ≡ 0 → refused 1 ≡ lent (checkpoints_ok t) (checkpoint_read (checkpoints_in t) log lsn)
    unfolding checkpoint_read
    checkpoint_zero z =
        let c : counts lsn ≡ false = le-ltb 0 lsn (omega arith) in
        sym (lent_yes (checkpoints_ok t) (checkpoint_read (checkpoints_in t) log lsn) ok ∙ rw (formed_rules checkpoints t ok, c))

    pub checkpoint_told : (lsn ≡ 0 → ⊥) → (o : Option ℕ) → o ≡ checkpoint_lsn (checkpoint_at (checkpoints_in t) log lsn) → done o ≡ lent (checkpoints_ok t) (checkpoint_read (checkpoints_in t) log lsn)
    unfolding checkpoint_read
    checkpoint_told z o h =
        let c : counts lsn ≡ true = lt-ltb 0 lsn (omega arith) in
        ap done h ∙ sym (lent_yes (checkpoints_ok t) (checkpoint_read (checkpoints_in t) log lsn) ok ∙ rw (formed_rules checkpoints t ok, c))

    -- what the lookup finds
    pub checkpoint_done : (lsn ≡ 0 → ⊥) → (o : Maybe Lsn) → found_says o ≡ checkpoint_lsn (checkpoint_at (checkpoints_in t) log lsn) → maybe_lsn_says (Ok o) ≡ lent (checkpoints_ok t) (checkpoint_read (checkpoints_in t) log lsn)
    checkpoint_done z None h = checkpoint_told z none h
    checkpoint_done z (Some n) h = checkpoint_told z (some n.0) h
