-- Save, then snapshot, then search, each by its contract. After a save that answers 0 the bytes hold the rule's tables (`After`), where a snapshot is the one that it answered, and search in it finds the new commit (rules `Save`).
-- Its bytes are those of the snapshot, which fits them (`Seen`), so both calls go past 20 and their arguments, to the rules.
use Rattle.std.proofs.Common.{◌≡◌, ℕ, ◌<◌, Bool, true, cond, ◌&&◌, eqb, List, [], length, sym, refl, ap, ◌∙◌, arith, ltb-true, eq-eqb}
use mathlib.Core.Option.{Option, some}
use Rattle.basics.specs.Answers.{Answer, done, ask, ◌>>◌}
use Rattle.basics.specs.Numbers.{counts}
use Rattle.rules.specs.Records.{Id, Commit, Entry, Snapshot}
use Rattle.rules.specs.Forms.{count_form, id_form}
use Rattle.rules.specs.Tables.{Table, commits_formed, index_formed}
use Rattle.rules.specs.Arguments.{snapshot_lsns, snapshot_order}
use Rattle.rules.specs.Snapshots.{snapshot}
use Rattle.rules.specs.Save.{saved_commit}
use Rattle.rules.specs.Search.{search_page}
use Rattle.rules.proofs.TableLaws.{and_fst, and_snd, and_both}
use Rattle.rules.proofs.AnswerLaws.{asked}
use Rattle.rules.proofs.Save.{save_found}
use Rattle.layout.specs.Codecs.{Holds, spelled}
use Rattle.layout.specs.Values.{set_bytes, snapshot_bytes}
use Rattle.layout.specs.Records.{commit_bytes}
use Rattle.layout.specs.Tables.{volumes_in, volumes_ok, commits_in, commits_ok, index_in, index_ok, presence_in}
use Rattle.layout.specs.Lent.{lent}
use Rattle.layout.proofs.HoldLaws.{held_spelled}
use Rattle.layout.proofs.LentLaws.{lent_yes}
use Rattle.rows.proofs.Tables as Layouts
use Rattle.arguments.specs.declared.Reply.{Reply}
use Rattle.arguments.specs.Replies.{given, value, value_or, placed}
use Rattle.arguments.specs.Snapshots.{snapshot_in, snapshot_formed}
use Rattle.searchcalls.specs.Searches.{search_in}
use Rattle.searchcalls.proofs.CallLaws.{passed}
use Rattle.writecalls.specs.Written.{logs_in}
use Rattle.savecalls.specs.Saving.{save_on, out_after, Leaves}
use Rattle.demands.specs.Saved.{Written, Finds}
use Rattle.demands.proofs.After.{Now, now_held}
use Rattle.demands.proofs.Seen.{seen_held}

-- what an answer of search says of its arguments
record Asked (s : Snapshot) (p : ℕ) : Type 0 where
  lsns : snapshot_lsns s ≡ true
  page : counts p ≡ true
  order : snapshot_order s ≡ true

search_asked : (cs : Table Commit) (es : Table Entry) (s : Snapshot) (p : ℕ) (o : Option Commit) → search_page cs es s p ≡ done o → Asked s p
unfolding search_page
search_asked cs es s p o e =
    asked (commits_formed cs && index_formed es) 20 _ e λ f e1.
    asked (snapshot_lsns s && counts p) 1 _ e1 λ one e2.
    asked (snapshot_order s) 2 _ e2 λ two e3.
    record { lsns = and_fst (snapshot_lsns s) (counts p) one; page = and_snd (snapshot_lsns s) (counts p) one; order = two }

-- a snapshot in its bytes
module _ (s : Snapshot) (held : Holds snapshot_bytes s) (b : List ℕ) (is : b ≡ snapshot_bytes.spell s) where
  long : eqb (length b) snapshot_bytes.size ≡ true
  long = eq-eqb (length b) snapshot_bytes.size (ap length is ∙ held.long)

  reads : snapshot_in b ≡ s
  unfolding snapshot_in
  reads = ap (λ (x : Bool). cond x (snapshot_bytes.read b) (record { path = []; count = 0 })) long ∙ ap snapshot_bytes.read is ∙ held.back

  in_form_lem : snapshot_formed b ≡ true
  unfolding snapshot_formed
  in_form_lem = and_both long (ap (spelled snapshot_bytes) is ∙ held_spelled snapshot_bytes held)

  placed_done : placed snapshot_bytes.size b (done s) ≡ done s
  unfolding placed
  placed_done = ap (λ (x : Bool). ask x 3 >> done s) long

module _ (vs cs ks es ps : List ℕ) (vid : Id) (snap : List ℕ) (count : ℕ) (sid : Id) (pages : List ℕ) (page : ℕ) (seen out : List ℕ) (typed : count_form count && id_form sid ≡ true)
    (saved : Reply) (cs' ks' es' ps' seen' : List ℕ) (left : Leaves cs ks es ps seen (save_on vs cs ks es ps vid snap count sid pages seen) saved.code cs' ks' es' ps' seen')
    (taken : Reply) (seen'' : List ℕ)
    (shown : (taken, seen'') ≡ value snapshot_bytes.spell seen' (lent (volumes_ok vs && commits_ok cs') (placed snapshot_bytes.size seen' (snapshot (volumes_in vs) (commits_in cs') vid))))
    (found : Reply) (out' : List ℕ)
    (searched : (found, out') ≡ value_or commit_bytes.spell out (lent (commits_ok cs' && index_ok es') (search_in (commits_in cs') (index_in es') seen'' page out)))
    (zero : saved.code ≡ 0) (h : Written vs cs es vid pages page out) where
  abbrev c : Commit
  c = saved_commit h.volume h.lsn count sid (set_bytes.read pages)

  n : Now vs cs ks es ps vid snap count sid pages seen saved.code cs' ks' es' ps' seen' left
  n = now_held vs cs ks es ps vid snap count sid pages seen saved.code cs' ks' es' ps' seen' left zero typed

  -- the snapshot that it answered
  abbrev s : Snapshot
  s = n.result.0

  rules_say : (snapshot (volumes_in vs) n.result.1.commits vid ≡ done s) × (search_page n.result.1.commits n.result.1.index s page ≡ done (some c))
  rules_say =
      save_found (volumes_in vs) (logs_in cs ks es) (presence_in ps) vid (snapshot_in snap) count sid (set_bytes.read pages) n.result n.saved typed h.exact h.volume h.lsn h.is h.next h.unsent
      page h.page_saved

  snapshot_after : snapshot (volumes_in vs) (commits_in cs') vid ≡ done s
  snapshot_after = ap (λ (x : Table Commit). snapshot (volumes_in vs) x vid) n.commits.table ∙ rules_say.0

  search_after : search_page (commits_in cs') (index_in es') s page ≡ done (some c)
  search_after =
      ap (λ (x : Table Commit). search_page x (index_in es') s page) n.commits.table ∙ ap (λ (x : Table Entry). search_page n.result.1.commits x s page) n.index.table ∙ rules_say.1

  bytes_saved : seen' ≡ snapshot_bytes.spell s
  unfolding out_after
  bytes_saved = left.of_out ∙ ap (out_after seen) n.is

  held : Holds snapshot_bytes s
  held = seen_held (volumes_in vs) (commits_in cs') vid s snapshot_after

  snapshot_is : ◌≡◌ {A = Reply × List ℕ} (taken, seen'') (given, snapshot_bytes.spell s)
  snapshot_is =
      shown
      ∙ ap (value snapshot_bytes.spell seen')
      (lent_yes (volumes_ok vs && commits_ok cs') (placed snapshot_bytes.size seen' (snapshot (volumes_in vs) (commits_in cs') vid)) (and_both n.volumes n.commits.again)
      ∙ ap (placed snapshot_bytes.size seen') snapshot_after
      ∙ placed_done s held seen' bytes_saved)

  bytes_seen : seen'' ≡ snapshot_bytes.spell s
  bytes_seen = ap (λ (x : Reply × List ℕ). x.1) snapshot_is

  commit_is : ◌≡◌ {A = Reply × List ℕ} (found, out') (given, commit_bytes.spell c)
  commit_is =
      let a = search_asked (commits_in cs') (index_in es') s page (some c) search_after in
      let r = reads s held seen'' bytes_seen in
      searched
      ∙ ap (value_or commit_bytes.spell out)
      (passed cs' es' seen'' page out n.commits.again n.index.again (ap snapshot_lsns r ∙ a.lsns) (λ z. omega (arith, z, ltb-true 0 page a.page)) (ap snapshot_order r ∙ a.order)
      (in_form_lem s held seen'' bytes_seen) (h.place ∙ (Layouts.commits).wide)
      ∙ ap (λ (x : Snapshot). search_page (commits_in cs') (index_in es') x page) r
      ∙ search_after)

  pub saved_found : Finds c taken found out'
  saved_found = record {
    snapshot_given = ap (λ (x : Reply × List ℕ). x.0) snapshot_is;
    commit_given = ap (λ (x : Reply × List ℕ). x.0) commit_is;
    commit_bytes = ap (λ (x : Reply × List ℕ). x.1) commit_is;
  }
