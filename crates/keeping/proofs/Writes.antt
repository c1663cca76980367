-- The law over each call that stores commits: what its contract's answer says, check by check, to the rule's.
use Rattle.std.proofs.Common.{◌≡◌, ℕ, Bool, true, false, eqb, leb, List, length, refl, ap, subst}
use mathlib.Core.Option.{Option, none, some}
use Rattle.basics.specs.Answers.{Answer, refused, done, ask, ◌>>◌}
use Rattle.basics.specs.Numbers.{counts, last_lsn}
use Rattle.rules.specs.Lists.{all, given}
use Rattle.rules.specs.Records.{Id, Commit, Segment, Volume}
use Rattle.rules.specs.Forms.{id_form, hash_form, lsn_form, count_form, lists_form, segment_form, commit_form}
use Rattle.rules.specs.Tables.{Table}
use Rattle.rules.specs.Arguments.{commit_lsns}
use Rattle.rules.specs.Write.{Logs}
use Rattle.rules.specs.Push.{recover}
use Rattle.rules.specs.Calls.{Tables, writing, succeeding, recovering, does, outcome, with_logs, with_volumes, typed, lsn_typed}
use Rattle.rules.proofs.TableLaws.{and_fst, and_snd, and_both, all_weaken}
use Rattle.rules.proofs.AnswerLaws.{refused_done, done_same, asked}
use Rattle.layout.specs.Codecs.{spelled, in_form}
use Rattle.layout.specs.Records.{volume_bytes, commit_bytes, checkpoint_bytes, entry_bytes}
use Rattle.layout.specs.Tables.{volumes_in, volumes_ok}
use Rattle.layout.specs.Lent.{lent, after}
use Rattle.writecalls.specs.Written.{commit_in, logs_in, logs_ok, write_in}
use Rattle.pushcalls.specs.Pushes.{push_ok, commit_asked, success_in}
use Rattle.keeping.specs.Frame.{Keeps}
use Rattle.keeping.specs.Holding.{volumes_and_logs, logs_alone}
use Rattle.keeping.specs.Stays.{StaysFormed, LogsStayFormed, StaysExact, StaysExactWhile}
use Rattle.keeping.proofs.Rooms.{BothRooms, write_commit_rooms, success_rooms, recover_rooms}
use Rattle.keeping.proofs.Losing.{recover_lossless}
use Rattle.keeping.proofs.Stored.{follows_keeps, follows_exact, follows_lossless, LogsRuled, LogsKept, logs_kept, Ruled, both_kept}

-- ---- what an answer says

-- all lent tables are formed, and the rule answered
pub lent_done : {A P : Type 0} (ok : Bool) (a : Answer A) {x : A} → lent ok a ≡ done x → (ok ≡ true → a ≡ done x → P) → P
unfolding lent
lent_done true a e k = k refl e
lent_done false a e k = refused_done e

-- the arguments passed, and the rule answered
pub after_asking : {A P : Type 0} (m : Answer (Unit {0})) (a : Answer A) {x : A} → m >> a ≡ done x → (m ≡ done tt → a ≡ done x → P) → P
after_asking (refused n) a e k = refused_done e
after_asking (done tt) a e k = k refl e

lsn_typed_lem : (n : ℕ) → lsn_form n ≡ true → lsn_typed n ≡ true
unfolding lsn_form
lsn_typed_lem n q = and_snd (counts n) (leb n last_lsn) q

sid_of : (s : Segment) → segment_form s ≡ true → id_form s.sid ≡ true
unfolding segment_form
sid_of s q = and_fst (id_form s.sid) (lists_form s) q

asked_true : (b : Bool) (n : ℕ) {x : Unit {0}} → ask b n ≡ done x → b ≡ true
asked_true true n e = refl
asked_true false n e = refused_done e

-- bytes in form spell a commit of its types
commit_typed_lem : (c : Commit) → commit_form c ≡ true → typed (writing c) ≡ true
unfolding typed commit_form
commit_typed_lem c f =
    let i : id_form c.log ≡ true = search (and_fst, and_snd) in
    let n : lsn_form c.lsn ≡ true = search (and_fst, and_snd) in
    let m : count_form c.count ≡ true = search (and_fst, and_snd) in
    let h : given hash_form c.hash ≡ true = search (and_fst, and_snd) in
    let s : given segment_form c.segment ≡ true = search (and_fst, and_snd) in
    let k : all lsn_form c.checkpoints ≡ true = search (and_fst, and_snd) in
    and_both (and_both (and_both (and_both (and_both i (lsn_typed_lem c.lsn n)) m) h) (sid c.segment s)) (all_weaken lsn_form lsn_typed c.checkpoints lsn_typed_lem k)
  where
    sid : (o : Option Segment) → given segment_form o ≡ true → given (λ (s : Segment). id_form s.sid) o ≡ true
    sid none q = refl
    sid (some s) q = sid_of s q

typed_in : (b : List ℕ) → in_form commit_bytes commit_form b ≡ true → typed (writing (commit_in b)) ≡ true
unfolding in_form
typed_in b f = commit_typed_lem (commit_in b) (and_snd (spelled commit_bytes b) (commit_form (commit_in b)) f)

-- ---- write a commit

module _ (cs ks es b cs' ks' es' : List ℕ) where
  abbrev wrote : Answer Logs
  wrote = lent (logs_ok cs ks es) (write_in (logs_in cs ks es) b)

  module _ (x : cs' ≡ after commit_bytes (λ (g : Logs). g.commits) cs wrote) (y : ks' ≡ after checkpoint_bytes (λ (g : Logs). g.checkpoints) ks wrote) (z : es' ≡ after entry_bytes (λ (g : Logs). g.index) es wrote) where
    write_ruled : (g : Logs) → wrote ≡ done g → LogsRuled wrote (λ h. h) cs ks es cs' ks' es' x y z (writing (commit_in b)) g
    unfolding write_in does
    write_ruled g e =
        lent_done (logs_ok cs ks es) (write_in (logs_in cs ks es) b) e λ ok e1.
        asked (eqb (length b) 722) 3 _ e1 λ long e2.
        asked (commit_lsns (commit_in b)) 1 _ e2 λ one e3.
        asked (in_form commit_bytes commit_form b) 3 _ e3 λ form e4.
        record {
          lent_formed = ok;
          types = typed_in b form;
          is = ap (λ (a : Answer Logs). (outcome (logs_alone (logs_in cs ks es)) a (with_logs (logs_alone (logs_in cs ks es)))).1) e4;
          rooms = write_commit_rooms (logs_in cs ks es) g (commit_in b) e4;
        }

    kept_write : LogsKept wrote (λ h. h) cs ks es cs' ks' es' x y z (writing (commit_in b))
    kept_write = logs_kept wrote (λ h. h) cs ks es cs' ks' es' x y z (writing (commit_in b)) write_ruled

    pub write_keeps : Keeps (logs_alone (logs_in cs ks es)) (writing (commit_in b)) (logs_alone (logs_in cs' ks' es')) × (LogsStayFormed cs ks es cs' ks' es' × StaysExactWhile cs es cs' es')
    write_keeps =
        let k = kept_write in
        let t = logs_alone (logs_in cs ks es) in
        let u = logs_alone (logs_in cs' ks' es') in
        let c = writing (commit_in b) in
        (follows_keeps t c u k.follows, (k.formed_still, follows_exact t c u k.follows))

-- ---- success and recover

module _ (vs cs ks es vs' cs' ks' es' : List ℕ) (vid : Id) where
  abbrev was : Tables
  was = volumes_and_logs (volumes_in vs) (logs_in cs ks es)

  abbrev left : Tables
  left = volumes_and_logs (volumes_in vs') (logs_in cs' ks' es')

  module _ (b : List ℕ) where
    abbrev pushed : Answer (Table Volume × Logs)
    pushed = lent (push_ok vs cs ks es) (success_in (volumes_in vs) (logs_in cs ks es) vid b)

    module _ (w : vs' ≡ after volume_bytes (λ (r : Table Volume × Logs). r.0) vs pushed) (x : cs' ≡ after commit_bytes (λ (r : Table Volume × Logs). r.1.commits) cs pushed)
        (y : ks' ≡ after checkpoint_bytes (λ (r : Table Volume × Logs). r.1.checkpoints) ks pushed) (z : es' ≡ after entry_bytes (λ (r : Table Volume × Logs). r.1.index) es pushed) where
      success_ruled : (r : Table Volume × Logs) → pushed ≡ done r
          → Ruled pushed (λ (q : Table Volume × Logs). q.1) cs ks es cs' ks' es' x y z (λ (q : Table Volume × Logs). q.0) vs vs' w (succeeding vid (commit_in b)) r
      unfolding push_ok success_in does typed
      success_ruled r e =
          lent_done (push_ok vs cs ks es) (success_in (volumes_in vs) (logs_in cs ks es) vid b) e λ ok e1.
          after_asking (commit_asked b) _ e1 λ args e2.
          asked (eqb (length b) 722) 3 _ args λ long a1.
          asked (commit_lsns (commit_in b)) 1 _ a1 λ one a2.
          record {
            volumes_formed = and_fst (volumes_ok vs) (logs_ok cs ks es) ok;
            lent_formed = and_snd (volumes_ok vs) (logs_ok cs ks es) ok;
            types = typed_in b (asked_true (in_form commit_bytes commit_form b) 3 a2);
            is = ap (λ (a : Answer (Table Volume × Logs)). (outcome was a (λ q. with_logs (with_volumes was q.0) q.1)).1) e2;
            rooms = success_rooms (volumes_in vs) (logs_in cs ks es) vid (commit_in b) r e2;
          }

      pub success_keeps : Keeps was (succeeding vid (commit_in b)) left × (StaysFormed volumes_ok vs vs' × (LogsStayFormed cs ks es cs' ks' es' × StaysExactWhile cs es cs' es'))
      success_keeps =
          let k = both_kept pushed (λ (q : Table Volume × Logs). q.1) cs ks es cs' ks' es' x y z (λ (q : Table Volume × Logs). q.0) vs vs' w (succeeding vid (commit_in b)) success_ruled in
          let c = succeeding vid (commit_in b) in
          (follows_keeps was c left k.follows, (k.volumes_still, (k.formed_still, follows_exact was c left k.follows)))

  abbrev recovered : Answer (ℕ × Table Volume × Logs)
  recovered = lent (push_ok vs cs ks es) (done (recover (volumes_in vs) (logs_in cs ks es) vid))

  module _ (w : vs' ≡ after volume_bytes (λ (r : ℕ × Table Volume × Logs). r.1) vs recovered) (x : cs' ≡ after commit_bytes (λ (r : ℕ × Table Volume × Logs). r.2.commits) cs recovered)
      (y : ks' ≡ after checkpoint_bytes (λ (r : ℕ × Table Volume × Logs). r.2.checkpoints) ks recovered) (z : es' ≡ after entry_bytes (λ (r : ℕ × Table Volume × Logs). r.2.index) es recovered) where
    recover_ruled : (r : ℕ × Table Volume × Logs) → recovered ≡ done r
        → Ruled recovered (λ (q : ℕ × Table Volume × Logs). q.2) cs ks es cs' ks' es' x y z (λ (q : ℕ × Table Volume × Logs). q.1) vs vs' w (recovering vid) r
    unfolding push_ok does typed
    recover_ruled r e =
        lent_done (push_ok vs cs ks es) (done (recover (volumes_in vs) (logs_in cs ks es) vid)) e λ ok e1.
        let s : recover (volumes_in vs) (logs_in cs ks es) vid ≡ r = done_same e1 in
        record {
          volumes_formed = and_fst (volumes_ok vs) (logs_ok cs ks es) ok;
          lent_formed = and_snd (volumes_ok vs) (logs_ok cs ks es) ok;
          types = refl;
          is = λ i. volumes_and_logs (s i).1 (s i).2;
          rooms = subst (λ (q : ℕ × Table Volume × Logs). BothRooms (volumes_in vs) (logs_in cs ks es) (q.1, q.2)) s (recover_rooms (volumes_in vs) (logs_in cs ks es) vid);
        }

    pub recover_keeps : Keeps was (recovering vid) left × (StaysFormed volumes_ok vs vs' × (LogsStayFormed cs ks es cs' ks' es' × StaysExact cs es cs' es'))
    unfolding does
    recover_keeps =
        let k = both_kept recovered (λ (q : ℕ × Table Volume × Logs). q.2) cs ks es cs' ks' es' x y z (λ (q : ℕ × Table Volume × Logs). q.1) vs vs' w (recovering vid) recover_ruled in
        let c = recovering vid in
        (follows_keeps was c left k.follows, (k.volumes_still, (k.formed_still, follows_lossless was c left k.follows (recover_lossless (volumes_in vs) (logs_in cs ks es) vid))))
