-- The call: 20, the arguments, the plan, the store. What is refused by one of them is the answer, and leaves every byte as found; else the next decides.
use Rattle.std.proofs.Common.{◌≡◌, ℕ, Bool, true, false, not, ◌&&◌, eqb, List, length, sym, refl, ap, ◌∙◌, subst, eqb-true, le-leb}
use mathlib.Core.Option.{Option, none, some}
use Rattle.basics.specs.Answers.{Answer, refused, done, code, ask, need, ◌>>◌, ◌>>=◌}
use Rattle.basics.proofs.AskLaws.{stops}
use Rattle.pageset.specs.Sets.{normal_form}
use Rattle.rules.specs.Records.{Id, Pages, Present, Volume, Snapshot}
use Rattle.rules.specs.Tables.{Table, get_volume, latest_lsn, volumes_formed, presence_formed}
use Rattle.rules.specs.Arguments.{snapshot_lsns, snapshot_order, snapshot_form}
use Rattle.rules.specs.Write.{Logs, logs_formed}
use Rattle.rules.specs.Snapshots.{is_latest}
use Rattle.rules.specs.Save.{lsn_after, sid_in_use, save}
use Rattle.rules.proofs.TableLaws.{cases, and_both}
use Rattle.layout.specs.Values.{set_bytes}
use Rattle.layout.specs.Tables.{volumes_in, commits_in, presence_in}
use Rattle.layout.specs.Lent.{after}
use Rattle.layout.proofs.LentLaws.{lent_no, lent_yes}
use Rattle.rows.proofs.Rows.{formed_rules}
use Rattle.rows.proofs.Tables as Layouts
use Rattle.arguments.specs.declared.Reply.{Reply}
use Rattle.arguments.specs.Replies.{numbered_reply}
use Rattle.arguments.specs.Snapshots.{snapshot_in}
use Rattle.arguments.proofs.SnapshotLaws.{in_few}
use Rattle.writecalls.specs.Written.{logs_in}
use Rattle.writecalls.proofs.Formed.{logs_formed_lem}
use Rattle.savecalls.specs.Saving.{Saved, save_ok, arguments_in, save_in, save_on, out_after, Leaves, planned, stored}
use Rattle.savecalls.proofs.Forms.{Formed, formed, Good, good, set_normal}

-- a refusal leaves the bytes as found
pub left_alone : (cs ks es ps out : List ℕ) (a : Answer Saved) (n : ℕ) → a ≡ refused n → Leaves cs ks es ps out a n cs ks es ps out
unfolding after out_after
left_alone cs ks es ps out a n e = rw e (record { number = refl; of_commits = refl; of_checkpoints = refl; of_index = refl; of_presence = refl; of_out = refl })

-- the same answer leaves the same
pub leaves_same : (cs ks es ps out : List ℕ) (a b : Answer Saved) → a ≡ b → (n : ℕ) (u x y w z : List ℕ) → Leaves cs ks es ps out a n u x y w z → Leaves cs ks es ps out b n u x y w z
leaves_same cs ks es ps out a b e n u x y w z h = subst (λ (q : Answer Saved). Leaves cs ks es ps out q n u x y w z) e h

-- ---- the reply of a number

pub reply_code : (n : ℕ) → (numbered_reply n).code ≡ n
reply_code n = cases (eqb n 0) (λ e. rw e (sym (eqb-true n 0 e))) (λ e. rw e)

pub replied : (cs ks es ps out : List ℕ) (a : Answer Saved) (n : ℕ) (u x y w z : List ℕ) (r : Reply) → Leaves cs ks es ps out a n u x y w z → r ≡ numbered_reply n
    → (r ≡ numbered_reply (code a)) × Leaves cs ks es ps out a r.code u x y w z
replied cs ks es ps out a n u x y w z r h e =
    (e ∙ ap numbered_reply h.number, subst (λ (m : ℕ). Leaves cs ks es ps out a m u x y w z) (sym (ap (λ (q : Reply). q.code) e ∙ reply_code n)) h)

-- ---- the rule is the plan, and then the store

-- the volume and the LSN of a plan
abbrev both : Volume → ℕ → Answer (Volume × ℕ)
both v n = done (v, n)

parted : (o : Option Volume) (b : Volume → Bool) (l : Volume → Answer ℕ) (u : Bool) (k : Volume → ℕ → Answer Saved)
    → (need o 4 >>= (λ v. ask (b v) 7 >> (l v >>= (λ n. ask u 5 >> k v n)))) ≡ ((need o 4 >>= (λ v. ask (b v) 7 >> (l v >>= (λ n. ask u 5 >> both v n)))) >>= (λ x. k x.0 x.1))
parted none b l u k = refl
parted (some v) b l u k = go (b v) (l v) u
  where
    go : (c : Bool) (a : Answer ℕ) (u : Bool) → (ask c 7 >> (a >>= (λ n. ask u 5 >> k v n))) ≡ ((ask c 7 >> (a >>= (λ n. ask u 5 >> both v n))) >>= (λ x. k x.0 x.1))
    go false a u = refl
    go true (refused m) u = refl
    go true (done n) false = refl
    go true (done n) true = refl

save_parts : (vs : Table Volume) (g : Logs) (ps : Table Present) (vid : Id) (s : Snapshot) (count : ℕ) (sid : Id) (pages : Pages)
    → (volumes_formed vs && logs_formed g && presence_formed ps) ≡ true → snapshot_lsns s ≡ true → snapshot_order s ≡ true → (snapshot_form s && normal_form pages) ≡ true
    → save vs g ps vid s count sid pages ≡ (planned vs g.commits ps vid s sid >>= (λ x. stored g ps x.0 x.1 count sid pages))
unfolding save planned stored
save_parts vs g ps vid s count sid pages a b c d =
    rw (a, b, c, d)
    (parted (get_volume vs vid) (λ v. is_latest g.commits v s) (λ v. lsn_after (latest_lsn g.commits v.local)) (not (sid_in_use g.commits ps sid)) (λ v n. stored g ps v n count sid pages))

module _ (vs cs ks es ps : List ℕ) (vid : Id) (snapshot : List ℕ) (count : ℕ) (sid : Id) (pages out : List ℕ) where
  abbrev answer : Answer Saved
  answer = save_on vs cs ks es ps vid snapshot count sid pages out

  abbrev rule : Answer Saved
  rule = save (volumes_in vs) (logs_in cs ks es) (presence_in ps) vid (snapshot_in snapshot) count sid (set_bytes.read pages)

  -- 20
  pub not_formed : false ≡ save_ok vs cs ks es ps → save_on vs cs ks es ps vid snapshot count sid pages out ≡ refused 20
  unfolding save_on
  not_formed e = lent_no _ _ (sym e)

  module _ (ok : true ≡ save_ok vs cs ks es ps) where
    in_is : answer ≡ (arguments_in snapshot pages (length out) >> rule)
    unfolding save_on save_in
    in_is = lent_yes _ _ (sym ok)

    -- 1, 2, 3
    pub bad_arguments : (n : ℕ) → n ≡ code (arguments_in snapshot pages (length out)) → (n ≡ 0 → ⊥) → save_on vs cs ks es ps vid snapshot count sid pages out ≡ refused n
    bad_arguments n e z = in_is ∙ stops (arguments_in snapshot pages (length out)) rule n e z

    module _ (h : 0 ≡ code (arguments_in snapshot pages (length out))) where
      tables : Formed vs cs ks es ps
      tables = formed vs cs ks es ps (sym ok)

      asked : Good snapshot pages (length out)
      asked = good snapshot pages (length out) h

      within : snapshot_form (snapshot_in snapshot) ≡ true
      unfolding snapshot_form
      within = le-leb (length (snapshot_in snapshot).path) 8 (in_few snapshot)

      -- with good arguments the rule decides
      pub in_rule : save_on vs cs ks es ps vid snapshot count sid pages out ≡ save (volumes_in vs) (logs_in cs ks es) (presence_in ps) vid (snapshot_in snapshot) count sid (set_bytes.read pages)
      in_rule = in_is ∙ ap (λ (a : Answer (Unit {0})). a >> rule) asked.done_with

      by_plan : answer ≡ (planned (volumes_in vs) (commits_in cs) (presence_in ps) vid (snapshot_in snapshot) sid >>= (λ x. stored (logs_in cs ks es) (presence_in ps) x.0 x.1 count sid (set_bytes.read pages)))
      by_plan =
          in_rule
          ∙ save_parts (volumes_in vs) (logs_in cs ks es) (presence_in ps) vid (snapshot_in snapshot) count sid (set_bytes.read pages)
          (and_both (and_both (formed_rules Layouts.volumes vs tables.volumes) (logs_formed_lem cs ks es tables.logs)) (formed_rules Layouts.presence ps tables.presence))
          asked.lsns asked.order (and_both within (set_normal pages asked.set))

      -- 4, 7, 18, 5
      pub no_plan : (n : ℕ) → planned (volumes_in vs) (commits_in cs) (presence_in ps) vid (snapshot_in snapshot) sid ≡ refused n → save_on vs cs ks es ps vid snapshot count sid pages out ≡ refused n
      no_plan n e = by_plan ∙ ap (λ (a : Answer (Volume × ℕ)). a >>= (λ x. stored (logs_in cs ks es) (presence_in ps) x.0 x.1 count sid (set_bytes.read pages))) e

      -- and then the store
      pub by_store : (v : Volume) (lsn : ℕ) → planned (volumes_in vs) (commits_in cs) (presence_in ps) vid (snapshot_in snapshot) sid ≡ done (v, lsn)
          → stored (logs_in cs ks es) (presence_in ps) v lsn count sid (set_bytes.read pages) ≡ save_on vs cs ks es ps vid snapshot count sid pages out
      by_store v lsn e = sym (by_plan ∙ ap (λ (a : Answer (Volume × ℕ)). a >>= (λ x. stored (logs_in cs ks es) (presence_in ps) x.0 x.1 count sid (set_bytes.read pages))) e)
