-- The two ends of writing a commit. A number other than 0 is a refusal, which leaves the bytes as found; under 0 every check has passed, and the tables of the write
-- are laid over them.
use Rattle.std.proofs.Common.{◌≡◌, ℕ, Bool, true, eqb, List, length, Result, Ok, Err, sym, refl, ap, ◌∙◌, arith, eq-eqb, eqb-true}
use Rattle.octets.specs.Bytes.{part}
use Rattle.basics.specs.Answers.{Answer, refused, done, code, ask, ◌>>◌}
use Rattle.basics.specs.Refusals.{code_of}
use Rattle.basics.specs.declared.refusal.Refusal.{Refusal}
use Rattle.rules.specs.Forms.{commit_form}
use Rattle.rules.specs.Arguments.{commit_lsns}
use Rattle.rules.specs.Write.{Logs, write, logs_fit}
use Rattle.rules.proofs.TableLaws.{cases, clash}
use Rattle.rules.proofs.AnswerLaws.{done_same, refused_done}
use Rattle.layout.specs.Codecs.{in_form}
use Rattle.layout.specs.Records.{commit_bytes, checkpoint_bytes, entry_bytes}
use Rattle.layout.specs.Tables.{commits_ok, checkpoints_ok, index_ok, laid_over}
use Rattle.layout.specs.Lent.{lent, after}
use Rattle.writecalls.specs.Written.{IsCommit, commit_in, logs_in, logs_ok, fresh_in, plan_says, planned, write_in}
use Rattle.writecalls.proofs.Formed.{each_ok}
use Rattle.writecalls.proofs.Plans.{bad, wrong_size, zero_lsn, not_formed, is_commit, room_decides, no_room}

module _ (cs ks es b : List ℕ) where
  -- all checks have passed
  pub record Passed : Type 0 where
    pub forms : (commits_ok cs ≡ true) × (checkpoints_ok ks ≡ true) × (index_ok es ≡ true)
    pub commit : IsCommit b
    pub room : logs_fit (write (logs_in cs ks es) (commit_in b)) ≡ true
    pub answers : lent (logs_ok cs ks es) (write_in (logs_in cs ks es) b) ≡ done (write (logs_in cs ks es) (commit_in b))

  abbrev pub answer : Answer Logs
  answer = lent (logs_ok cs ks es) (write_in (logs_in cs ks es) b)

  passed : code answer ≡ 0 → Passed
  passed h =
      cases (logs_ok cs ks es) (λ o.
      cases (eqb (length b) 722) (λ q.
      let n = eqb-true (length b) 722 q in
      cases (commit_lsns (commit_in (part 0 722 b))) (λ l.
      cases (in_form commit_bytes commit_form (part 0 722 b)) (λ f.
      cases (logs_fit (write (logs_in cs ks es) (commit_in b))) (λ r.
      record {
        forms = each_ok cs ks es o;
        commit = is_commit cs ks es b o n l f;
        room = r;
        answers = room_decides cs ks es b o n l f ∙ ap (λ (x : Bool). ask x 19 >> done (write (logs_in cs ks es) (commit_in b))) r;
      })
      (λ r. not_0 19 (no_room cs ks es b o n l f r) (omega arith)))
      (λ f. not_0 3 (not_formed cs ks es b o n l f) (omega arith)))
      (λ l. not_0 1 (zero_lsn cs ks es b o n l) (omega arith)))
      (λ q. not_0 3 (wrong_size cs ks es b o (λ n. clash (eq-eqb (length b) 722 n) q)) (omega arith)))
      (λ e. not_0 20 (bad cs ks es b e) (omega arith))
    where
      not_0 : (k : ℕ) → k ≡ code answer → (k ≡ 0 → ⊥) → Passed
      not_0 k e z = absurd (z (e ∙ h))

-- ---- a plan: its number is the answer's, and where it has none all checks have passed

number_by : (p : Result ℕ Refusal) (a : Answer Logs) (k : ℕ) → plan_says p ≡ planned a k → code_of p ≡ code a
number_by (Err r) (refused n) k e = ap code e
number_by (Err r) (done g) k e = refused_done e
number_by (Ok m) (refused n) k e = refused_done (sym e)
number_by (Ok m) (done g) k e = refl

module _ (cs ks es b : List ℕ) (p : Result ℕ Refusal) (e : plan_says p ≡ planned (answer cs ks es b) (fresh_in es (commit_in b))) where
  pub number_is : code_of p ≡ code (answer cs ks es b)
  number_is = number_by p (answer cs ks es b) (fresh_in es (commit_in b)) e

  module _ (n : ℕ) (z : p ≡ Ok n) where
    pub plan_passed : Passed cs ks es b
    plan_passed = passed cs ks es b (sym number_is ∙ ap code_of z)

    pub fresh_passed : n ≡ fresh_in es (commit_in b)
    fresh_passed = done_same (ap plan_says (sym z) ∙ e ∙ ap (λ (a : Answer Logs). planned a (fresh_in es (commit_in b))) plan_passed.answers)

-- ---- what a call leaves

abbrev pub Left : (cs ks es u v w : List ℕ) (n : ℕ) → Answer Logs → Type 0
Left cs ks es u v w n a =
    (n ≡ code a) × ((u ≡ after commit_bytes (λ (g : Logs). g.commits) cs a)
    × ((v ≡ after checkpoint_bytes (λ (g : Logs). g.checkpoints) ks a) × (w ≡ after entry_bytes (λ (g : Logs). g.index) es a)))

module _ (cs ks es : List ℕ) where
  -- a refusal leaves the bytes as found
  pub unchanged : (n : ℕ) (a : Answer Logs) → n ≡ code a → (n ≡ 0 → ⊥) → Left cs ks es cs ks es n a
  unfolding after
  unchanged n (refused m) e z = (e, (refl, (refl, refl)))
  unchanged n (done g) e z = absurd (z e)

  -- else the tables of the answer are laid over them
  pub changed : (a : Answer Logs) (g : Logs) → a ≡ done g → (u v w : List ℕ) → u ≡ laid_over commit_bytes g.commits cs → v ≡ laid_over checkpoint_bytes g.checkpoints ks
      → w ≡ laid_over entry_bytes g.index es → Left cs ks es u v w 0 a
  unfolding after
  changed a g e u v w p q r = (
    ap code (sym e),
    (
      p ∙ ap (after commit_bytes (λ (x : Logs). x.commits) cs) (sym e),
      (q ∙ ap (after checkpoint_bytes (λ (x : Logs). x.checkpoints) ks) (sym e), r ∙ ap (after entry_bytes (λ (x : Logs). x.index) es) (sym e)),
    ),
  )
