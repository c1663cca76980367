-- The ends of op=fetch: 22, or the write of the commit's bytes, which is the rule's.
use Rattle.std.proofs.Common.{◌≡◌, ℕ, ◌^◌, ◌<◌, List, sym, refl, ap, ◌∙◌, arith}
use Rattle.basics.specs.Answers.{Answer, refused, done, code, ◌>>=◌}
use Rattle.pageset.specs.declared.SetAnswer.{SetAnswer}
use Rattle.pageset.specs.Sets.{shown}
use Rattle.rules.specs.Records.{Id, Pages, Commit}
use Rattle.rules.specs.Write.{Logs}
use Rattle.layout.specs.Records.{commit_bytes, checkpoint_bytes, entry_bytes}
use Rattle.layout.specs.Lent.{lent, after}
use Rattle.setbytes.proofs.LaidLaws.{shown_form}
use Rattle.writecalls.specs.Written.{logs_in, logs_ok, write_in}
use Rattle.callline.specs.Texts.{Text}
use Rattle.callline.specs.Says.{ranges_in}
use Rattle.callvalues.specs.Values.{id_of, fetched}
use Rattle.callstep.specs.Steps.{fetch_on}
use Rattle.callstep.specs.Says.{Fetches}
use Rattle.callvalues.proofs.Values.{id_form_lem}
use Rattle.callvalues.proofs.Fetched.{fetched_held, fetched_form}
use Rattle.callstep.proofs.Writes.{write_same}
use Rattle.callstep.proofs.Named.{Named}

module _ (t u w : List ℕ) (log lsn n sid : ℕ) (text : Text) (r : SetAnswer) (k : Named (ranges_in text) r) where
  -- 22
  pub over : (r.code ≡ 0 → ⊥) → Fetches t u w log lsn n sid text r.code t u w
  unfolding fetch_on after
  over z = let e = k.other z in record { pages = k.pages; are = k.are; number = rw e; of_commits = rw e; of_checkpoints = rw e; of_index = rw e }

  module _ (z : r.code ≡ 0) (a : log < 256) (b : lsn < 2 ^ 64) (d : n < 2 ^ 32) (e : sid < 256) (id sg c : List ℕ) (is : id ≡ id_of log) (sis : sg ≡ id_of sid)
      (bytes : c ≡ commit_bytes.spell (fetched id lsn n sg (shown r.set))) where
    abbrev it : Commit
    it = fetched (id_of log) lsn n (id_of sid) (shown r.set)

    spells : c ≡ commit_bytes.spell it
    spells = bytes ∙ rw (is, sis)

    answer_is : lent (logs_ok t u w) (write_in (logs_in t u w) c) ≡ fetch_on t u w log lsn n sid k.pages
    unfolding fetch_on
    answer_is =
        let f = id_form_lem log a in
        let g = id_form_lem sid e in
        let s = shown_form r.set (k.form z) in
        rw (k.zero z)
        (ap (λ (x : List ℕ). lent (logs_ok t u w) (write_in (logs_in t u w) x)) spells
        ∙ write_same t u w it (fetched_held (id_of log) lsn n (id_of sid) (shown r.set) f (omega arith) (omega arith) g s)
        (fetched_form (id_of log) lsn n (id_of sid) (shown r.set) f (omega arith) (omega arith) g s))

    abbrev written : Answer Logs
    written = lent (logs_ok t u w) (write_in (logs_in t u w) c)

    pub fetches : (m : ℕ) (t' u' w' : List ℕ) → m ≡ code written → t' ≡ after commit_bytes (λ (g : Logs). g.commits) t written → u' ≡ after checkpoint_bytes (λ (g : Logs). g.checkpoints) u written
        → w' ≡ after entry_bytes (λ (g : Logs). g.index) w written → Fetches t u w log lsn n sid text m t' u' w'
    fetches m t' u' w' e1 e2 e3 e4 =
        record {
          pages = k.pages;
          are = k.are;
          number = e1 ∙ ap code answer_is;
          of_commits = e2 ∙ ap (after commit_bytes (λ (g : Logs). g.commits) t) answer_is;
          of_checkpoints = e3 ∙ ap (after checkpoint_bytes (λ (g : Logs). g.checkpoints) u) answer_is;
          of_index = e4 ∙ ap (after entry_bytes (λ (g : Logs). g.index) w) answer_is;
        }
