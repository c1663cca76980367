-- What the two calls leave, by their plans: where a plan leaves all as it is the bytes are as found, and a table that the rule leaves, laid over its own bytes, is those bytes;
-- where it stores, the tables of the rule are laid over them.
use Rattle.std.proofs.Common.{◌≡◌, ℕ, ◌+◌, ◌*◌, ◌<◌, true, false, List, sym, refl, ap, ◌∙◌, subst}
use mathlib.Core.Option.{none}
use Rattle.octets.specs.Bytes.{part, AreBytes}
use Rattle.basics.specs.Answers.{Answer, refused, done, code}
use Rattle.basics.specs.Orders.{bytes}
use Rattle.rules.specs.Records.{Id, Volume, volume_key}
use Rattle.rules.specs.Tables.{Table, store}
use Rattle.rules.specs.Write.{Logs, write}
use Rattle.rules.specs.Push.{with_pending, pushed_volume, recover}
use Rattle.table.specs.Table.{count_of}
use Rattle.layout.specs.Lent.{lent, after}
use Rattle.layout.specs.Records.{volume_bytes, commit_bytes, checkpoint_bytes, entry_bytes}
use Rattle.layout.specs.Tables.{volumes_in, volumes_ok, laid_over}
use Rattle.layout.proofs.LentLaws.{lent_no, lent_yes}
use Rattle.rows.proofs.Rows.{laid_same}
use Rattle.rows.proofs.Tables as Tables
use Rattle.writecalls.specs.Written.{commit_in, logs_in}
use Rattle.pushcalls.specs.Pushes.{push_ok, success_in, number_of, Stands, Ready, PushedAt, DroppedAt, Planned, Recovers}
use Rattle.pushcalls.specs.declared.Plan.{Plan}
use Rattle.pushcalls.specs.declared.Plan.TheVariants as Plan
use Rattle.pushcalls.specs.declared.Recovery.{Recovery}
use Rattle.pushcalls.specs.declared.Recovery.TheVariants as Recovery
use Rattle.pushcalls.proofs.Ends.{volumes_ok_lem, logs_ok_lem}

-- ---- success: u, x, y, z are the bytes afterwards

abbrev Left : (t cs ks es u x y z : List ℕ) (n : ℕ) → Answer (Table Volume × Logs) → Type 0
Left t cs ks es u x y z n a =
    (n ≡ code a) × ((u ≡ after volume_bytes (λ (r : Table Volume × Logs). r.0) t a) × ((x ≡ after commit_bytes (λ (r : Table Volume × Logs). r.1.commits) cs a)
    × ((y ≡ after checkpoint_bytes (λ (r : Table Volume × Logs). r.1.checkpoints) ks a) × (z ≡ after entry_bytes (λ (r : Table Volume × Logs). r.1.index) es a))))

module _ (t cs ks es : List ℕ) (a : Answer (Table Volume × Logs)) where
  -- a refusal leaves the bytes as found
  unchanged : (n : ℕ) → a ≡ refused n → Left t cs ks es t cs ks es n a
  unfolding after
  unchanged n e = (
    ap code (sym e),
    (
      ap (after volume_bytes (λ (r : Table Volume × Logs). r.0) t) (sym e),
      (
        ap (after commit_bytes (λ (r : Table Volume × Logs). r.1.commits) cs) (sym e),
        (ap (after checkpoint_bytes (λ (r : Table Volume × Logs). r.1.checkpoints) ks) (sym e), ap (after entry_bytes (λ (r : Table Volume × Logs). r.1.index) es) (sym e)),
      ),
    ),
  )

  -- else the answer's tables are laid over them
  changed : (vs : Table Volume) (g : Logs) → a ≡ done (vs, g) → (u x y z : List ℕ) → u ≡ laid_over volume_bytes vs t → x ≡ laid_over commit_bytes g.commits cs
      → y ≡ laid_over checkpoint_bytes g.checkpoints ks → z ≡ laid_over entry_bytes g.index es → Left t cs ks es u x y z 0 a
  unfolding after
  changed vs g e u x y z p q k i = (
    ap code (sym e),
    (
      p ∙ ap (after volume_bytes (λ (r : Table Volume × Logs). r.0) t) (sym e),
      (
        q ∙ ap (after commit_bytes (λ (r : Table Volume × Logs). r.1.commits) cs) (sym e),
        (k ∙ ap (after checkpoint_bytes (λ (r : Table Volume × Logs). r.1.checkpoints) ks) (sym e), i ∙ ap (after entry_bytes (λ (r : Table Volume × Logs). r.1.index) es) (sym e)),
      ),
    ),
  )

module _ (t cs ks es : List ℕ) (vid : Id) (b : List ℕ) where
  abbrev rule : Answer (Table Volume × Logs)
  rule = success_in (volumes_in t) (logs_in cs ks es) vid b

  abbrev answer : Answer (Table Volume × Logs)
  answer = lent (push_ok t cs ks es) rule

  -- 20
  pub success_20 : push_ok t cs ks es ≡ false → Left t cs ks es t cs ks es 20 answer
  success_20 e = unchanged t cs ks es answer 20 (lent_no (push_ok t cs ks es) rule e)

  module _ (r : Plan) (plan : Planned t cs ks es b rule r) where
    -- a number
    pub success_left : push_ok t cs ks es ≡ true → (n : ℕ) → r ≡ Plan.Left n → Left t cs ks es t cs ks es n answer
    success_left ok n e = unchanged t cs ks es answer n (lent_yes (push_ok t cs ks es) rule ok ∙ subst (Planned t cs ks es b rule) e plan)

    module _ (i : ℕ) (e : r ≡ Plan.Push i) where
      planned : Planned t cs ks es b rule (Plan.Push i)
      planned = subst (Planned t cs ks es b rule) e plan

      pub success_ready : Ready t cs ks es b i
      success_ready = planned.0

      -- the push
      pub success_stored : push_ok t cs ks es ≡ true → (u x y z : List ℕ) → PushedAt t i (λ vs. u ≡ laid_over volume_bytes vs t)
          → (x ≡ laid_over commit_bytes (write (logs_in cs ks es) (commit_in b)).commits cs)
          × ((y ≡ laid_over checkpoint_bytes (write (logs_in cs ks es) (commit_in b)).checkpoints ks) × (z ≡ laid_over entry_bytes (write (logs_in cs ks es) (commit_in b)).index es))
          → Left t cs ks es u x y z 0 answer
      success_stored ok u x y z p q =
          let k = planned.0 in
          changed t cs ks es answer (store volume_key bytes (pushed_volume k.volume k.pending) (volumes_in t)) (write (logs_in cs ks es) (commit_in b))
          (lent_yes (push_ok t cs ks es) rule ok ∙ planned.1 k.volume k.pending k.stands.there k.has) u x y z
          (p k.volume k.pending k.stands.there k.has) q.0 q.1.0 q.1.1

-- ---- recover

abbrev Leaves : (t cs ks es u x y z : List ℕ) (n : ℕ) → Answer (ℕ × Table Volume × Logs) → Type 0
Leaves t cs ks es u x y z n a =
    (n ≡ number_of a) × ((u ≡ after volume_bytes (λ (r : ℕ × Table Volume × Logs). r.1) t a) × ((x ≡ after commit_bytes (λ (r : ℕ × Table Volume × Logs). r.2.commits) cs a)
    × ((y ≡ after checkpoint_bytes (λ (r : ℕ × Table Volume × Logs). r.2.checkpoints) ks a) × (z ≡ after entry_bytes (λ (r : ℕ × Table Volume × Logs). r.2.index) es a))))

module _ (t cs ks es : List ℕ) (a : Answer (ℕ × Table Volume × Logs)) (u x y z : List ℕ) (n : ℕ) where
  -- what the answer b leaves, where a is b
  same_answer_lem : (b : Answer (ℕ × Table Volume × Logs)) → a ≡ b → Leaves t cs ks es u x y z n b → Leaves t cs ks es u x y z n a
  same_answer_lem b e h = subst (Leaves t cs ks es u x y z n) (sym e) h

module _ (t cs ks es : List ℕ) (vid : Id) where
  abbrev found : ℕ × Table Volume × Logs
  found = recover (volumes_in t) (logs_in cs ks es) vid

  abbrev outcome : Answer (ℕ × Table Volume × Logs)
  outcome = lent (push_ok t cs ks es) (done found)

  -- 20
  pub recover_20 : push_ok t cs ks es ≡ false → Leaves t cs ks es t cs ks es 20 outcome
  unfolding after
  recover_20 e = same_answer_lem t cs ks es outcome t cs ks es 20 (refused 20) (lent_no (push_ok t cs ks es) (done found) e) (refl, (refl, (refl, (refl, refl))))

  module _ (ok : push_ok t cs ks es ≡ true) where
    -- the rule's number and tables laid over the bytes
    laid : (n : ℕ) (vs : Table Volume) (g : Logs) → found ≡ (n, vs, g) → (u x y z : List ℕ) → u ≡ laid_over volume_bytes vs t → x ≡ laid_over commit_bytes g.commits cs
        → y ≡ laid_over checkpoint_bytes g.checkpoints ks → z ≡ laid_over entry_bytes g.index es → Leaves t cs ks es u x y z n outcome
    unfolding after
    laid n vs g e u x y z p q k i =
        same_answer_lem t cs ks es outcome u x y z n (done (n, vs, g)) (lent_yes (push_ok t cs ks es) (done found) ok ∙ ap (λ (r : ℕ × Table Volume × Logs). done r) e) (refl, (p, (q, (k, i))))

    module _ (r : Recovery) (plan : Recovers t cs ks es found r) where
      module _ (bc : AreBytes cs) (bk : AreBytes ks) (be : AreBytes es) where
        -- commits, checkpoints and index stay
        kept : (n : ℕ) (vs : Table Volume) → found ≡ (n, vs, logs_in cs ks es) → (u : List ℕ) → u ≡ laid_over volume_bytes vs t → Leaves t cs ks es u cs ks es n outcome
        kept n vs e u p =
            let l = logs_ok_lem t cs ks es ok in
            laid n vs (logs_in cs ks es) e u cs ks es p (sym (laid_same Tables.commits cs bc l.0)) (sym (laid_same Tables.checkpoints ks bk l.1)) (sym (laid_same Tables.index es be l.2))

        -- all stays
        pub recover_left : AreBytes t → (n : ℕ) → r ≡ Recovery.Left n → Leaves t cs ks es t cs ks es n outcome
        recover_left bt n e = kept n (volumes_in t) (subst (Recovers t cs ks es found) e plan) t (sym (laid_same Tables.volumes t bt (volumes_ok_lem t cs ks es ok)))

        -- the pending commit is dropped
        pub recover_dropped : (i n : ℕ) → r ≡ Recovery.Drop i n → (u : List ℕ) → DroppedAt t i (λ vs. u ≡ laid_over volume_bytes vs t) → Leaves t cs ks es u cs ks es n outcome
        recover_dropped i n e u p =
            let q : Recovers t cs ks es found (Recovery.Drop i n) = subst (Recovers t cs ks es found) e plan in
            let v = q.0.0 in
            let there = q.0.1.there in
            kept n (store volume_key bytes (with_pending v none) (volumes_in t)) (q.1 v there) u (p v there)

      pub drop_ready : (i n : ℕ) → r ≡ Recovery.Drop i n → (volumes_ok t ≡ true) × ((v : Volume) × Stands t i v)
      drop_ready i n e =
          let q : Recovers t cs ks es found (Recovery.Drop i n) = subst (Recovers t cs ks es found) e plan in
          (volumes_ok_lem t cs ks es ok, q.0)

      -- the push with the stored commit
      module _ (i j : ℕ) (e : r ≡ Recovery.Push i j) where
        recovers : Recovers t cs ks es found (Recovery.Push i j)
        recovers = subst (Recovers t cs ks es found) e plan

        pub commit_inside : j < count_of cs
        commit_inside = recovers.1

        module _ (b : List ℕ) (copied : b ≡ part (2 + j * 722) 722 cs) where
          pub recover_ready : Ready t cs ks es b i
          recover_ready = subst (λ (c : List ℕ). Ready t cs ks es c i) (sym copied) recovers.0

          pub recover_stored : (u x y z : List ℕ) → PushedAt t i (λ vs. u ≡ laid_over volume_bytes vs t)
              → (x ≡ laid_over commit_bytes (write (logs_in cs ks es) (commit_in b)).commits cs)
              × ((y ≡ laid_over checkpoint_bytes (write (logs_in cs ks es) (commit_in b)).checkpoints ks) × (z ≡ laid_over entry_bytes (write (logs_in cs ks es) (commit_in b)).index es))
              → Leaves t cs ks es u x y z 0 outcome
          recover_stored u x y z p q =
              let k = recovers.0 in
              laid 0 (store volume_key bytes (pushed_volume k.volume k.pending) (volumes_in t)) (write (logs_in cs ks es) (commit_in b))
              (recovers.2 k.volume k.pending k.stands.there k.has
              ∙ ap (λ (c : List ℕ). (0, store volume_key bytes (pushed_volume k.volume k.pending) (volumes_in t), write (logs_in cs ks es) (commit_in c))) (sym copied)) u x y z
              (p k.volume k.pending k.stands.there k.has) q.0 q.1.0 q.1.1
