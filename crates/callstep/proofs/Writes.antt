-- The write of a commit's bytes is the rule's: 1 for LSN 0, and else the commit is in form.
use Rattle.std.proofs.Common.{◌≡◌, ℕ, Bool, true, false, ◌&&◌, eqb, List, length, sym, refl, ap, ◌∙◌, eq-eqb}
use Rattle.basics.specs.Answers.{refused, ask, ◌>>◌}
use Rattle.rules.specs.Records as R
use Rattle.rules.specs.Forms.{commit_form}
use Rattle.rules.specs.Arguments.{commit_lsns}
use Rattle.rules.specs.Write.{Logs, logs_formed, write_commit}
use Rattle.rules.proofs.TableLaws.{cases, and_fst, and_snd, and_both}
use Rattle.layout.specs.Codecs.{Holds, in_form}
use Rattle.layout.specs.Records.{commit_bytes}
use Rattle.layout.specs.Tables.{commits_ok, checkpoints_ok, index_ok}
use Rattle.layout.specs.Lent.{lent}
use Rattle.layout.proofs.HoldLaws as H
use Rattle.layout.proofs.LentLaws.{lent_no}
use Rattle.rows.proofs.Rows.{formed_rules}
use Rattle.rows.proofs.Tables.{commits, checkpoints, index, commit_size}
use Rattle.writecalls.specs.Written.{logs_in, logs_ok, write_in}

logs_formed_lem : (t u w : List ℕ) → logs_ok t u w ≡ true → logs_formed (logs_in t u w) ≡ true
unfolding logs_ok logs_formed
logs_formed_lem t u w ok =
    let tu = and_fst (commits_ok t && checkpoints_ok u) (index_ok w) ok in
    and_both (and_both (formed_rules commits t (and_fst (commits_ok t) (checkpoints_ok u) tu)) (formed_rules checkpoints u (and_snd (commits_ok t) (checkpoints_ok u) tu)))
    (formed_rules index w (and_snd (commits_ok t && checkpoints_ok u) (index_ok w) ok))

module _ (g : Logs) (c : R.Commit) (h : Holds commit_bytes c) (f : commit_lsns c ≡ true → commit_form c ≡ true) (lf : logs_formed g ≡ true) where
  no_lsn : commit_lsns c ≡ false → write_commit g c ≡ refused 1
  unfolding write_commit
  no_lsn e = rw (lf, e)

  by_lsns : (b : Bool) → commit_lsns c ≡ b → (ask b 1 >> (ask (in_form commit_bytes commit_form (commit_bytes.spell c)) 3 >> write_commit g c)) ≡ write_commit g c
  by_lsns true e = ap (λ (x : Bool). ask x 3 >> write_commit g c) (H.held_form commit_bytes commit_form h (f e))
  by_lsns false e = sym (no_lsn e)

  write_in_lem : write_in g (commit_bytes.spell c) ≡ write_commit g c
  unfolding write_in
  write_in_lem =
      let s : eqb (length (commit_bytes.spell c)) 722 ≡ true = eq-eqb (length (commit_bytes.spell c)) 722 (h.long ∙ commit_size) in
      rw (s, h.back) (by_lsns (commit_lsns c) refl)

-- on lent bytes, 20 first
pub write_same : (t u w : List ℕ) (c : R.Commit) → Holds commit_bytes c → (commit_lsns c ≡ true → commit_form c ≡ true)
    → lent (logs_ok t u w) (write_in (logs_in t u w) (commit_bytes.spell c)) ≡ lent (logs_ok t u w) (write_commit (logs_in t u w) c)
write_same t u w c h f =
    cases (logs_ok t u w) (λ ok. ap (lent (logs_ok t u w)) (write_in_lem (logs_in t u w) c h f (logs_formed_lem t u w ok)))
    (λ no. lent_no (logs_ok t u w) (write_in (logs_in t u w) (commit_bytes.spell c)) no ∙ sym (lent_no (logs_ok t u w) (write_commit (logs_in t u w) c) no))
