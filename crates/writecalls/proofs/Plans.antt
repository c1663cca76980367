-- What writing a commit that is given as bytes answers, check by check: each test that fails is the number, and where none fails the tables are those of the write.
use Rattle.std.proofs.Common.{◌≡◌, ℕ, Bool, true, false, eqb, List, length, sym, refl, ap, ◌∙◌, eq-eqb, ne_eqb}
use Rattle.octets.specs.Bytes.{part}
use Rattle.octets.proofs.Places.{part_whole}
use Rattle.basics.specs.Answers.{Answer, refused, done, code, ask, ◌>>◌}
use Rattle.rules.specs.Forms.{commit_form}
use Rattle.rules.specs.Arguments.{commit_lsns, commit_lists}
use Rattle.rules.specs.Write.{Logs, write, logs_formed, logs_fit, write_commit}
use Rattle.rules.proofs.Write.{form_lists}
use Rattle.layout.specs.Codecs.{in_form}
use Rattle.layout.specs.Records.{commit_bytes}
use Rattle.layout.specs.Lent.{lent}
use Rattle.layout.proofs.LentLaws.{lent_no, lent_yes}
use Rattle.writecalls.specs.Written.{IsCommit, commit_in, logs_in, logs_ok, fresh_in, roomed, planned, write_in}
use Rattle.writecalls.proofs.Formed.{logs_formed_lem}
use Rattle.writecalls.proofs.Rows.{is_form}

module _ (cs ks es b : List ℕ) where
  abbrev answer : Answer Logs
  answer = lent (logs_ok cs ks es) (write_in (logs_in cs ks es) b)

  -- ---- 20
  pub bad : logs_ok cs ks es ≡ false → 20 ≡ code answer
  bad e = sym (ap code (lent_no (logs_ok cs ks es) (write_in (logs_in cs ks es) b) e))

  module _ (oks : logs_ok cs ks es ≡ true) where
    abbrev chain : Bool → Bool → Bool → Answer Logs
    chain x y z = ask x 3 >> (ask y 1 >> (ask z 3 >> write_commit (logs_in cs ks es) (commit_in b)))

    chain_is : answer ≡ chain (eqb (length b) 722) (commit_lsns (commit_in b)) (in_form commit_bytes commit_form b)
    unfolding write_in
    chain_is = lent_yes (logs_ok cs ks es) (write_in (logs_in cs ks es) b) oks

    -- ---- 3, of another number of bytes
    pub wrong_size : (length b ≡ 722 → ⊥) → 3 ≡ code answer
    wrong_size h = sym (ap code (chain_is ∙ ap (λ (x : Bool). chain x (commit_lsns (commit_in b)) (in_form commit_bytes commit_form b)) (ne_eqb (length b) 722 h)))

    module _ (n : length b ≡ 722) where
      all_of : part 0 722 b ≡ b
      all_of = part_whole 722 b n

      sized_is : answer ≡ chain true (commit_lsns (commit_in b)) (in_form commit_bytes commit_form b)
      sized_is = chain_is ∙ ap (λ (x : Bool). chain x (commit_lsns (commit_in b)) (in_form commit_bytes commit_form b)) (eq-eqb (length b) 722 n)

      lsns_are : (r : Bool) → commit_lsns (commit_in (part 0 722 b)) ≡ r → answer ≡ chain true r (in_form commit_bytes commit_form b)
      lsns_are r e = sized_is ∙ ap (λ (y : Bool). chain true y (in_form commit_bytes commit_form b)) (ap (λ (x : List ℕ). commit_lsns (commit_in x)) (sym all_of) ∙ e)

      -- ---- 1
      pub zero_lsn : commit_lsns (commit_in (part 0 722 b)) ≡ false → 1 ≡ code answer
      zero_lsn e = sym (ap code (lsns_are false e))

      module _ (l : commit_lsns (commit_in (part 0 722 b)) ≡ true) where
        -- ---- 3, not in form
        pub not_formed : in_form commit_bytes commit_form (part 0 722 b) ≡ false → 3 ≡ code answer
        not_formed e = sym (ap code (lsns_are true l ∙ ap (chain true true) (ap (in_form commit_bytes commit_form) (sym all_of) ∙ e)))

        module _ (f : in_form commit_bytes commit_form (part 0 722 b) ≡ true) where
          pub is_commit : IsCommit b
          is_commit = (n, ap (in_form commit_bytes commit_form) (sym all_of) ∙ f)

          abbrev after_20 : Bool → Bool → Bool → Answer Logs
          after_20 x y z = ask x 20 >> (ask y 1 >> (ask z 3 >> (ask (logs_fit (write (logs_in cs ks es) (commit_in b))) 19 >> done (write (logs_in cs ks es) (commit_in b)))))

          rule_is : write_commit (logs_in cs ks es) (commit_in b) ≡ after_20 (logs_formed (logs_in cs ks es)) (commit_lsns (commit_in b)) (commit_lists (commit_in b))
          unfolding write_commit
          rule_is = refl

          -- what is left is room
          pub room_decides : answer ≡ (ask (logs_fit (write (logs_in cs ks es) (commit_in b))) 19 >> done (write (logs_in cs ks es) (commit_in b)))
          room_decides =
              lsns_are true l ∙ ap (chain true true) is_commit.1 ∙ rule_is
              ∙ ap (λ (x : Bool). after_20 x (commit_lsns (commit_in b)) (commit_lists (commit_in b))) (logs_formed_lem cs ks es oks)
              ∙ ap (λ (y : Bool). after_20 true y (commit_lists (commit_in b))) (ap (λ (x : List ℕ). commit_lsns (commit_in x)) (sym all_of) ∙ l)
              ∙ ap (after_20 true true) (form_lists (commit_in b) (is_form b is_commit))

          -- ---- 19
          abbrev by_room : Bool → Answer Logs
          by_room r = ask r 19 >> done (write (logs_in cs ks es) (commit_in b))

          pub no_room : logs_fit (write (logs_in cs ks es) (commit_in b)) ≡ false → 19 ≡ code answer
          no_room e = sym (ap code (room_decides ∙ ap by_room e))

          -- the plan by room is the plan
          pub room_plans : planned (roomed (write (logs_in cs ks es) (commit_in b))) (fresh_in es (commit_in b)) ≡ planned answer (fresh_in es (commit_in b))
          room_plans = ap (λ (a : Answer Logs). planned a (fresh_in es (commit_in b))) (sym room_decides)

-- the plan of a number other than 0
refusal : (a : Answer Logs) (n k : ℕ) → n ≡ code a → (n ≡ 0 → ⊥) → refused n ≡ planned a k
refusal (refused m) n k e z = ap (λ (x : ℕ). refused x) e
refusal (done g) n k e z = absurd (z e)

module _ (cs ks es b : List ℕ) where
  pub refused_by : (n : ℕ) → n ≡ code (answer cs ks es b) → (n ≡ 0 → ⊥) → refused n ≡ planned (answer cs ks es b) (fresh_in es (commit_in b))
  refused_by n e z = refusal (answer cs ks es b) n (fresh_in es (commit_in b)) e z
