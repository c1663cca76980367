-- The frame theorem (T5) over a save's contract, and what stays formed and exact (T2): a refusal leaves every byte, so every record; else the bytes hold the tables that the rule answers, of which the rules' theorems speak.
use Rattle.std.proofs.Common.{◌≡◌, ℕ, true, ◌&&◌, eqb, List, sym, ap, ◌∙◌, subst, eqb-true}
use borrow.Author.Tests.{eqb-false}
use Rattle.basics.specs.Answers.{Answer, code}
use Rattle.rules.specs.Records.{Id, Commit, Entry}
use Rattle.rules.specs.Forms.{count_form, id_form}
use Rattle.rules.specs.Tables.{Table}
use Rattle.rules.specs.Demand.{Exact}
use Rattle.rules.specs.Calls.{Tables, Change, saving, does, outcome, with_logs, with_presence}
use Rattle.rules.proofs.TableLaws.{cases}
use Rattle.rules.proofs.Index.{save_exact}
use Rattle.layout.specs.Values.{set_bytes}
use Rattle.layout.specs.Tables.{volumes_in, commits_in, commits_ok, checkpoints_ok, index_in, index_ok, presence_in, presence_ok}
use Rattle.writecalls.specs.Written.{logs_in}
use Rattle.arguments.specs.declared.Reply.{Reply}
use Rattle.arguments.specs.Replies.{numbered_reply}
use Rattle.arguments.specs.Snapshots.{snapshot_in}
use Rattle.savecalls.specs.Saving.{Saved, save_on, Leaves}
use Rattle.refusals.proofs.Laws.{save_left}
use Rattle.keeping.specs.Frame.{Keeps}
use Rattle.keeping.specs.Stays.{StaysFormed, LogsStayFormed, StaysExact}
use Rattle.keeping.proofs.Kept.{does_keeps, same_keeps}
use Rattle.demands.specs.Frame.{tables_in}
use Rattle.demands.proofs.After.{Now, now_held}

module _ (vs cs ks es ps : List ℕ) (vid : Id) (snap : List ℕ) (count : ℕ) (sid : Id) (pages out : List ℕ) (typed : count_form count && id_form sid ≡ true) (r : Reply) (cs' ks' es' ps' out' : List ℕ)
    (number : r ≡ numbered_reply (code (save_on vs cs ks es ps vid snap count sid pages out)))
    (left : Leaves cs ks es ps out (save_on vs cs ks es ps vid snap count sid pages out) r.code cs' ks' es' ps' out') where
  abbrev call : Change
  call = saving vid (snapshot_in snap) count sid (set_bytes.read pages)

  -- 0: the tables afterwards are the rule's
  is_rule : Now vs cs ks es ps vid snap count sid pages out r.code cs' ks' es' ps' out' left → tables_in vs cs' ks' es' ps' ≡ (does (tables_in vs cs ks es ps) call).1
  unfolding does
  is_rule n =
      let p = n.commits.table in
      let q = n.checkpoints.table in
      let s = n.index.table in
      let w = n.presence.table in
      let t = tables_in vs cs ks es ps in
      (λ i. with_presence (with_logs t (record { commits = p i; checkpoints = q i; index = s i })) (w i))
      ∙ sym (ap (λ (a : Answer Saved). (outcome t a (λ x. with_presence (with_logs t x.1) x.2)).1) n.saved)

  abbrev pub Kept : Type 0
  Kept = Keeps (tables_in vs cs ks es ps) call (tables_in vs cs' ks' es' ps') × (LogsStayFormed cs ks es cs' ks' es' × (StaysFormed presence_ok ps ps' × StaysExact cs es cs' es'))

  saved : Now vs cs ks es ps vid snap count sid pages out r.code cs' ks' es' ps' out' left → Kept
  saved n = (
    subst (λ (u : Tables). Keeps (tables_in vs cs ks es ps) call u) (sym (is_rule n)) (does_keeps (tables_in vs cs ks es ps) call),
    (record { of_commits = λ f. n.commits.again; of_checkpoints = λ f. n.checkpoints.again; of_index = λ f. n.index.again }, (λ f. n.presence.again, exact)),
  )
    where
      exact : StaysExact cs es cs' es'
      exact h =
          let e = save_exact (volumes_in vs) (logs_in cs ks es) (presence_in ps) vid (snapshot_in snap) count sid (set_bytes.read pages) n.result n.saved h in
          let f : Exact (commits_in cs') n.result.1.index = subst (λ (t : Table Commit). Exact t n.result.1.index) (sym n.commits.table) e in
          subst (λ (t : Table Entry). Exact (commits_in cs') t) (sym n.index.table) f

  same : cs' ≡ cs → ks' ≡ ks → es' ≡ es → ps' ≡ ps → Kept
  same a b d f = (
    subst (λ (u : Tables). Keeps (tables_in vs cs ks es ps) call u) (λ i. tables_in vs (sym a i) (sym b i) (sym d i) (sym f i)) (same_keeps (tables_in vs cs ks es ps) call),
    (
      record { of_commits = λ h. ap commits_ok a ∙ h; of_checkpoints = λ h. ap checkpoints_ok b ∙ h; of_index = λ h. ap index_ok d ∙ h },
      (λ h. ap presence_ok f ∙ h, λ h. subst (λ (x : List ℕ). Exact (commits_in cs') (index_in x)) (sym d) (subst (λ (x : List ℕ). Exact (commits_in x) (index_in es)) (sym a) h)),
    ),
  )

  pub save_keeps : Kept
  save_keeps =
      cases (eqb r.code 0) (λ q. saved (now_held vs cs ks es ps vid snap count sid pages out r.code cs' ks' es' ps' out' left (eqb-true r.code 0 q) typed))
      (λ q.
      let n = eqb-false r.code 0 q in
      let e = save_left cs ks es ps out (save_on vs cs ks es ps vid snap count sid pages out) r cs' ks' es' ps' out' number left in
      same (e.0 n).1 (e.1.0 n).1 (e.1.1.0 n).1 (e.1.1.1.0 n).1)
