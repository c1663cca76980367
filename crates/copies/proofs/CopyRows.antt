-- A copy's bytes: those of the stored commit with another key in front. The key is a commit's first 25 bytes and nothing else of the commit goes by it, so they are the bytes of the
-- commit under the other log and LSN, which is in form.
use Rattle.std.proofs.Common.{◌≡◌, ℕ, ◌+◌, ◌*◌, ◌^◌, ◌<◌, true, List, ◌++◌, length, drop, sym, refl, ap, ◌∙◌, ap₂, arith, drop_at}
use Rattle.octets.specs.Bytes.{part, put, AreBytes}
use Rattle.rules.specs.Records.{Id, Commit}
use Rattle.rules.specs.Forms.{commit_form}
use Rattle.rules.proofs.Kept.{lsn_form_lem, renumber_form}
use Rattle.table.specs.Table.{count_of}
use Rattle.layout.specs.Codecs.{pair, number, optional, listed, in_form}
use Rattle.layout.specs.Values.{segment_bytes}
use Rattle.layout.specs.Records.{log_lsn_bytes, hash_bytes, commit_bytes}
use Rattle.layout.specs.Tables.{commits_ok}
use Rattle.layout.proofs.HoldLaws.{held_form}
use Rattle.layout.proofs.PlaceLaws.{id_form_lem, key_long}
use Rattle.rows.proofs.Rows.{long_is}
use Rattle.rows.proofs.Checks.{row_form_lem, row_spelled}
use Rattle.rows.proofs.Tables.{commits, commit_ok}
use Rattle.commits.specs.Places.{commit_at}
use Rattle.writecalls.specs.Written.{IsCommit, commit_in}
use Rattle.copies.specs.Copied.{renumber}

-- what stands behind the key
abbrev rest : Commit → List ℕ
rest c = (pair (number 4) (pair (optional hash_bytes) (pair (optional segment_bytes) (listed (number 8) 8)))).spell (c.count, (c.hash, (c.segment, c.checkpoints)))

key_rest : (c : Commit) → commit_bytes.spell c ≡ log_lsn_bytes.spell (c.log, c.lsn) ++ rest c
unfolding commit_bytes
key_rest c = refl

-- another front of the same length
other_front : (k j r : List ℕ) → length k ≡ length j → put 0 k (j ++ r) ≡ k ++ r
unfolding put
other_front k j r e = let z : 0 + length k ≡ length j = omega (arith, e) in ap (λ (l : List ℕ). k ++ l) (ap (λ (n : ℕ). drop n (j ++ r)) z ∙ drop_at j r (length j) refl)

module _ (t : List ℕ) (ok : commits_ok t ≡ true) (row : ℕ) (h : row < count_of t) (log : Id) (l : length log ≡ 16) (b : AreBytes log) (lsn : ℕ) (p : 0 < lsn) (q : lsn < 2 ^ 64) where
  copy_form : commit_form (renumber log lsn (commit_at t row)) ≡ true
  copy_form = renumber_form log lsn (commit_at t row) (id_form_lem log l b) (lsn_form_lem lsn p q) (row_form_lem commits t ok row h)

  copy_spelled : put 0 (log_lsn_bytes.spell (log, lsn)) (part (2 + row * 722) 722 t) ≡ commit_bytes.spell (renumber log lsn (commit_at t row))
  copy_spelled =
      ap (put 0 (log_lsn_bytes.spell (log, lsn))) (sym (row_spelled commits t ok row h) ∙ key_rest (commit_at t row))
      ∙ other_front (log_lsn_bytes.spell (log, lsn)) (log_lsn_bytes.spell ((commit_at t row).log, (commit_at t row).lsn)) (rest (commit_at t row))
      (key_long log lsn l ∙ sym (key_long (commit_at t row).log (commit_at t row).lsn row_log_long))
      ∙ sym (key_rest (renumber log lsn (commit_at t row)))
    where
      row_log_long : length (commit_at t row).log ≡ 16
      row_log_long = (commit_ok (commit_at t row) (row_form_lem commits t ok row h)).0

  -- what code builds is a commit, and which
  pub copy_is : (v key u : List ℕ) (at : ℕ) → at ≡ 2 + row * 722 → u ≡ part at 722 t → key ≡ log_lsn_bytes.spell (log, lsn) → v ≡ put 0 key u
      → IsCommit v × (commit_in v ≡ renumber log lsn (commit_at t row))
  copy_is v key u at ea eu ek ev =
      let e : v ≡ commit_bytes.spell (renumber log lsn (commit_at t row)) =
      ev ∙ ap₂ (put 0) ek (eu ∙ ap (λ (n : ℕ). part n 722 t) ea) ∙ copy_spelled in
      let x = commits.holds (renumber log lsn (commit_at t row)) copy_form in (
        (ap (length {A = ℕ}) e ∙ long_is commits (renumber log lsn (commit_at t row)) copy_form, ap (in_form commit_bytes commit_form) e ∙ held_form commit_bytes commit_form x copy_form),
        ap commit_bytes.read e ∙ x.back,
      )
