-- The house rule over the lent bytes: what the contract of `sync` says of its reply and of the bytes of volumes that it leaves, put together with the rule's own theorems (rules `Sync`).
-- A refusal leaves the bytes; an answer lays the rule's volumes over them, which are the volumes at entry, and then their bytes too, or every local commit was sent.
use Rattle.std.proofs.Common.{◌≡◌, ℕ, true, ◌&&◌, List, sym, refl, ap, ◌∙◌, ⊎_elim}
use mathlib.Core.Option.{some}
use Rattle.octets.specs.Bytes.{AreBytes}
use Rattle.basics.specs.Answers.{Answer, refused, done, code}
use Rattle.rules.specs.Records.{Id, Commit, Volume}
use Rattle.rules.specs.Tables.{Table, get_volume, latest_lsn}
use Rattle.rules.specs.Snapshots.{remote_of}
use Rattle.rules.specs.Promises.{Moved, Unsent, Volumed}
use Rattle.rules.specs.Sync.{sync}
use Rattle.rules.proofs.TableLaws.{cases, and_fst, and_both}
use Rattle.rules.proofs.Sync.{house_rule, both_moved_8}
use Rattle.layout.specs.Lent.{lent, after}
use Rattle.layout.specs.Records.{volume_bytes}
use Rattle.layout.specs.Tables.{volumes_in, volumes_ok, commits_in, commits_ok, laid_over}
use Rattle.layout.proofs.LentLaws.{lent_no, lent_yes}
use Rattle.rows.proofs.Rows.{formed_rules, laid_same}
use Rattle.rows.proofs.Tables.{volumes, commits}
use Rattle.arguments.specs.declared.Reply.{Reply}
use Rattle.arguments.specs.Replies.{numbered_reply, none_under}
use Rattle.demands.specs.HouseRule.{HouseRule}

-- t and cs are the bytes of volumes and commits that are lent, r the reply of sync and u the bytes of volumes afterwards, as its contract has them
module _ (t cs : List ℕ) (vid : Id) (bs : AreBytes t) (r : Reply) (u : List ℕ)
    (number : r ≡ numbered_reply (code (lent (volumes_ok t && commits_ok cs) (sync (volumes_in t) (commits_in cs) vid))))
    (left : u ≡ after volume_bytes (λ w. w) t (lent (volumes_ok t && commits_ok cs) (sync (volumes_in t) (commits_in cs) vid))) where
  abbrev answer : Answer (Table Volume)
  answer = lent (volumes_ok t && commits_ok cs) (sync (volumes_in t) (commits_in cs) vid)

  as_found : (n : ℕ) → answer ≡ refused n → u ≡ t
  unfolding after
  as_found n e = left ∙ ap (after volume_bytes (λ (w : Table Volume). w) t) e

  laid : (vs : Table Volume) → answer ≡ done vs → u ≡ laid_over volume_bytes vs t
  unfolding after
  laid vs e = left ∙ ap (after volume_bytes (λ (w : Table Volume). w) t) e

  -- the remote has changes and a local commit was not sent
  both : volumes_ok t ≡ true → commits_ok cs ≡ true → (v : Volume) → get_volume (volumes_in t) vid ≡ some v → Moved (remote_of v.sync) (latest_lsn (commits_in cs) v.remote)
      → (c : Commit) → Unsent (commits_in cs) v c → (r ≡ none_under 8) × (u ≡ t)
  both ok okc v found there c here =
      let a : Volumed (volumes_in t) (commits_in cs) vid = record { volumes = formed_rules volumes t ok; commits = formed_rules commits cs okc; volume = v; is = found } in
      let e : answer ≡ refused 8
      = lent_yes (volumes_ok t && commits_ok cs) (sync (volumes_in t) (commits_in cs) vid) (and_both ok okc) ∙ both_moved_8 (volumes_in t) (commits_in cs) vid a c there here in
      (number ∙ ap (λ (q : Answer (Table Volume)). numbered_reply (code q)) e, as_found 8 e)

  -- a byte of volumes changed: then every local commit was sent
  sent : (v : Volume) → get_volume (volumes_in t) vid ≡ some v → (u ≡ t → ⊥) → (c : Commit) → Unsent (commits_in cs) v c → ⊥
  sent v found moved c here =
      cases (volumes_ok t && commits_ok cs)
      (λ ok. by (and_fst (volumes_ok t) (commits_ok cs) ok) (sync (volumes_in t) (commits_in cs) vid) refl (lent_yes (volumes_ok t && commits_ok cs) (sync (volumes_in t) (commits_in cs) vid) ok))
      (λ no. moved (as_found 20 (lent_no (volumes_ok t && commits_ok cs) (sync (volumes_in t) (commits_in cs) vid) no)))
    where
      by : volumes_ok t ≡ true → (a : Answer (Table Volume)) → sync (volumes_in t) (commits_in cs) vid ≡ a → answer ≡ sync (volumes_in t) (commits_in cs) vid → ⊥
      by ok (refused n) e h = moved (as_found n (h ∙ e))
      by ok (done vs) e h =
          ⊎_elim (λ same. moved (laid vs (h ∙ e) ∙ ap (λ (w : Table Volume). laid_over volume_bytes w t) (sym same) ∙ laid_same volumes t bs ok))
          (λ all. all c here) (house_rule (volumes_in t) (commits_in cs) vs vid v e found)

  pub sync_keeps : HouseRule t cs vid r u
  sync_keeps = record { nothing_unsent = sent; both_moved = both }
