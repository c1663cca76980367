-- Recover, whose rule answers a number beside its tables: a number other than 0 and 8 comes with the tables at entry, and those laid over their own bytes are these bytes; with 8 the rule's own theorem says which
-- volumes are left (rules `Numbers`), and the logs are those at entry.
use Rattle.std.proofs.Common.{◌≡◌, ℕ, true, false, List, [], sym, ap, ◌∙◌, ⊎_elim, arith}
use Rattle.octets.specs.Bytes.{AreBytes}
use Rattle.basics.specs.Answers.{Answer, refused, done}
use Rattle.rules.specs.Records.{Id, Volume}
use Rattle.rules.specs.Tables.{Table}
use Rattle.rules.specs.Write.{Logs}
use Rattle.rules.specs.Push.{recover}
use Rattle.rules.specs.Calls.{Tables, recovering, does}
use Rattle.rules.proofs.TableLaws.{cases}
use Rattle.rules.proofs.Numbers.{recover_8, recover_dropped, refusal_same}
use Rattle.layout.specs.Lent.{lent, after}
use Rattle.layout.specs.Records.{volume_bytes, commit_bytes, checkpoint_bytes, entry_bytes}
use Rattle.layout.specs.Tables.{volumes_in, laid_over}
use Rattle.layout.proofs.LentLaws.{lent_no, lent_yes}
use Rattle.rows.proofs.Rows.{laid_same}
use Rattle.rows.proofs.Tables as Layouts
use Rattle.arguments.specs.declared.Reply.{Reply}
use Rattle.arguments.specs.Replies.{numbered_reply}
use Rattle.writecalls.specs.Written.{logs_in}
use Rattle.pushcalls.specs.Pushes.{push_ok, number_of}
use Rattle.pushcalls.proofs.Ends.{volumes_ok_lem, logs_ok_lem}
use Rattle.savecalls.proofs.Ends.{reply_code}
use Rattle.refusals.specs.Refusals.{AsFound, Drops}
use Rattle.refusals.proofs.Laws.{no_value}

-- what the rule answers: its number, the volumes and the logs
abbrev Recovered : Type 0
Recovered = ℕ × Table Volume × Logs

module _ (t cs ks es : List ℕ) (vid : Id) where
  abbrev rule : Recovered
  rule = recover (volumes_in t) (logs_in cs ks es) vid

  abbrev outcome : Answer Recovered
  outcome = lent (push_ok t cs ks es) (done rule)

  -- the rule's tables, where its number is neither 0 nor 8
  same_tables : (rule.0 ≡ 0 → ⊥) → (rule.0 ≡ 8 → ⊥) → (rule.1 ≡ volumes_in t) × (rule.2 ≡ logs_in cs ks es)
  unfolding does
  same_tables n0 n8 =
      let all : Tables = record { volumes = volumes_in t; logs = logs_in cs ks es; presence = record { room = 0; rows = [] }; tags = record { room = 0; rows = [] } } in
      ⊎_elim (λ e. absurd (n0 e)) (λ s. ⊎_elim (λ e. (ap (λ (w : Tables). w.volumes) e, ap (λ (w : Tables). w.logs) e)) (λ d. absurd (n8 d.number)) s) (refusal_same all (recovering vid))

  -- r is the reply and u, x, y, z the bytes afterwards, as the contract has them
  module _ (bt : AreBytes t) (bc : AreBytes cs) (bk : AreBytes ks) (be : AreBytes es) (r : Reply) (u x y z : List ℕ) (number : r ≡ numbered_reply (number_of outcome))
      (of_volumes : u ≡ after volume_bytes (λ (w : Recovered). w.1) t outcome) (of_commits : x ≡ after commit_bytes (λ (w : Recovered). w.2.commits) cs outcome)
      (of_checkpoints : y ≡ after checkpoint_bytes (λ (w : Recovered). w.2.checkpoints) ks outcome) (of_index : z ≡ after entry_bytes (λ (w : Recovered). w.2.index) es outcome) where
    code_is : r.code ≡ number_of outcome
    code_is = ap (λ (q : Reply). q.code) number ∙ reply_code (number_of outcome)

    -- past 20 the number is the rule's, and so are the volumes; the logs are as found where the rule leaves them
    module _ (ok : push_ok t cs ks es ≡ true) where
      is : outcome ≡ done rule
      is = lent_yes (push_ok t cs ks es) (done rule) ok

      rule_code : r.code ≡ rule.0
      rule_code = code_is ∙ ap number_of is

      volumes_left : u ≡ laid_over volume_bytes rule.1 t
      unfolding after
      volumes_left = of_volumes ∙ ap (after volume_bytes (λ (w : Recovered). w.1) t) is

      logs_left : rule.2 ≡ logs_in cs ks es → (x ≡ cs) × ((y ≡ ks) × (z ≡ es))
      unfolding after
      logs_left g =
          let o = logs_ok_lem t cs ks es ok in (
            of_commits ∙ ap (after commit_bytes (λ (w : Recovered). w.2.commits) cs) is ∙ ap (λ (w : Logs). laid_over commit_bytes w.commits cs) g ∙ laid_same Layouts.commits cs bc o.0,
            (
              of_checkpoints ∙ ap (after checkpoint_bytes (λ (w : Recovered). w.2.checkpoints) ks) is ∙ ap (λ (w : Logs). laid_over checkpoint_bytes w.checkpoints ks) g ∙ laid_same Layouts.checkpoints ks bk o.1,
              of_index ∙ ap (after entry_bytes (λ (w : Recovered). w.2.index) es) is ∙ ap (λ (w : Logs). laid_over entry_bytes w.index es) g ∙ laid_same Layouts.index es be o.2,
            ),
          )

    -- 20 leaves all
    module _ (no : push_ok t cs ks es ≡ false) where
      is_20 : outcome ≡ refused 20
      is_20 = lent_no (push_ok t cs ks es) (done rule) no

      left_20 : (u ≡ t) × ((x ≡ cs) × ((y ≡ ks) × (z ≡ es)))
      unfolding after
      left_20 = (
        of_volumes ∙ ap (after volume_bytes (λ (w : Recovered). w.1) t) is_20,
        (
          of_commits ∙ ap (after commit_bytes (λ (w : Recovered). w.2.commits) cs) is_20,
          (of_checkpoints ∙ ap (after checkpoint_bytes (λ (w : Recovered). w.2.checkpoints) ks) is_20, of_index ∙ ap (after entry_bytes (λ (w : Recovered). w.2.index) es) is_20),
        ),
      )

    -- 20, 4 and 19
    all_left : (r.code ≡ 8 → ⊥) → (r.code ≡ 0 → ⊥) → (u ≡ t) × ((x ≡ cs) × ((y ≡ ks) × (z ≡ es)))
    all_left n8 n0 =
        cases (push_ok t cs ks es)
        (λ ok.
        let m = rule_code ok in
        let s = same_tables (λ e. n0 (m ∙ e)) (λ e. n8 (m ∙ e)) in
        (volumes_left ok ∙ ap (λ (w : Table Volume). laid_over volume_bytes w t) s.0 ∙ laid_same Layouts.volumes t bt (volumes_ok_lem t cs ks es ok), logs_left ok s.1))
        (λ no. left_20 no)

    pub recover_left : (r.code ≡ 8 → ⊥) → AsFound r t u × (AsFound r cs x × (AsFound r ks y × AsFound r es z))
    recover_left n8 =
        let none_given = no_value (number_of outcome) r number in (
          λ n0. (none_given n0, (all_left n8 n0).0),
          (λ n0. (none_given n0, (all_left n8 n0).1.0), (λ n0. (none_given n0, (all_left n8 n0).1.1.0), λ n0. (none_given n0, (all_left n8 n0).1.1.1))),
        )

    -- 8
    pub recover_drops : r.code ≡ 8 → Drops t cs ks es vid r u x y z
    recover_drops e8 =
        cases (push_ok t cs ks es)
        (λ ok.
        let d = (recover_8 (volumes_in t) (logs_in cs ks es) vid).0 (sym (rule_code ok) ∙ e8) in
        let e = recover_dropped (volumes_in t) (logs_in cs ks es) vid d in
        record {
          no_value = no_value (number_of outcome) r number (λ n0. omega (arith, e8, n0));
          diverged = d;
          dropped = volumes_left ok ∙ ap (λ (w : Recovered). laid_over volume_bytes w.1 t) e;
          others = logs_left ok (ap (λ (w : Recovered). w.2) e);
        })
        (λ no. let m : r.code ≡ 20 = code_is ∙ ap number_of (is_20 no) in absurd (omega (arith, m, e8)))
