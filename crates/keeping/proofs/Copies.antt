-- The law over the two copies: what their contracts' answers say, check by check, to the rules'.
use Rattle.std.proofs.Common.{◌≡◌, ℕ, true, List, ap, ◌∙◌, subst}
use mathlib.Core.Option.{some}
use Rattle.basics.specs.Answers.{Answer, done}
use Rattle.rules.specs.Records.{Id, Volume}
use Rattle.rules.specs.Tables.{Table}
use Rattle.rules.specs.Write.{Logs}
use Rattle.rules.specs.Open.{Ids}
use Rattle.rules.specs.Demand.{NoPageLost}
use Rattle.rules.specs.Copies.{from_snapshot}
use Rattle.rules.specs.Calls.{Tables, Change, copying, copying_ref, does, outcome, with_logs, with_volumes, typed, ids_typed}
use Rattle.rules.proofs.TableLaws.{and_fst, and_snd}
use Rattle.rules.proofs.AnswerLaws.{done_same, gotten}
use Rattle.layout.specs.Tables.{volumes_in, volumes_ok}
use Rattle.arguments.specs.declared.Reply.{Reply}
use Rattle.arguments.specs.Snapshots.{snapshot_in}
use Rattle.writecalls.specs.Written.{logs_in, logs_ok}
use Rattle.copycalls.specs.Making.{Made, made, copy_ok, arguments_in, snapshot_on, logref_in, logref_on, Leaves}
use Rattle.keeping.specs.Frame.{Keeps}
use Rattle.keeping.specs.Holding.{volumes_and_logs}
use Rattle.keeping.specs.Stays.{StaysFormed, LogsStayFormed, StaysExact}
use Rattle.keeping.proofs.Rooms.{BothRooms, from_snapshot_rooms, from_logref_rooms}
use Rattle.keeping.proofs.Losing.{snapshot_lossless, logref_lossless}
use Rattle.keeping.proofs.Stored.{follows_keeps, follows_lossless, Ruled, both_kept}
use Rattle.keeping.proofs.Writes.{lent_done, after_asking}

module _ (vs cs ks es out vs' cs' ks' es' out' : List ℕ) (x : Ids) (types : ids_typed x ≡ true) (r : Reply) where
  abbrev was : Tables
  was = volumes_and_logs (volumes_in vs) (logs_in cs ks es)

  abbrev left : Tables
  left = volumes_and_logs (volumes_in vs') (logs_in cs' ks' es')

  -- what is said of both: the frame, all that is formed, and the exact index
  abbrev pub Copied : Change → Type 0
  Copied c = Keeps was c left × (StaysFormed volumes_ok vs vs' × (LogsStayFormed cs ks es cs' ks' es' × StaysExact cs es cs' es'))

  -- a is the answer, and l what the call leaves
  module _ (a : Answer Made) (l : Leaves vs cs ks es out a r vs' cs' ks' es' out') (c : Change) where
    abbrev RuledCopy : Made → Type 0
    RuledCopy m = Ruled a (λ (q : Made). q.2) cs ks es cs' ks' es' l.of_commits l.of_checkpoints l.of_index (λ (q : Made). q.1) vs vs' l.of_volumes c m

    by_law : ((m : Made) → a ≡ done m → RuledCopy m) → NoPageLost was.logs.commits (does was c).1.logs.commits → Copied c
    by_law rule lost =
        let k = both_kept a (λ (q : Made). q.2) cs ks es cs' ks' es' l.of_commits l.of_checkpoints l.of_index (λ (q : Made). q.1) vs vs' l.of_volumes c rule in
        (follows_keeps was c left k.follows, (k.volumes_still, (k.formed_still, follows_lossless was c left k.follows lost)))

  -- ---- volume from snapshot

  module _ (b : List ℕ) (place : ℕ) (l : Leaves vs cs ks es out (snapshot_on vs cs ks es b x place) r vs' cs' ks' es' out') where
    abbrev from_b : Change
    from_b = copying (snapshot_in b) x

    snapshot_ruled : (m : Made) → snapshot_on vs cs ks es b x place ≡ done m → RuledCopy (snapshot_on vs cs ks es b x place) l from_b m
    unfolding snapshot_on copy_ok made does typed
    snapshot_ruled m e =
        lent_done (copy_ok vs cs ks es) _ e λ ok e1.
        after_asking (arguments_in b place) _ e1 λ args e2.
        gotten (from_snapshot (volumes_in vs) (logs_in cs ks es) (snapshot_in b) x) _ e2 λ q k e3.
        let s : ◌≡◌ {A = Made} (some q.0, q.1, q.2) m = done_same e3 in
        record {
          volumes_formed = and_fst (volumes_ok vs) (logs_ok cs ks es) ok;
          lent_formed = and_snd (volumes_ok vs) (logs_ok cs ks es) ok;
          types = types;
          is = ap (λ (y : Answer (Volume × Table Volume × Logs)). (outcome was y (λ z. with_logs (with_volumes was z.1) z.2)).1) k ∙ (λ i. volumes_and_logs (s i).1 (s i).2);
          rooms = subst (λ (y : Made). BothRooms (volumes_in vs) (logs_in cs ks es) (y.1, y.2)) s (from_snapshot_rooms (volumes_in vs) (logs_in cs ks es) (snapshot_in b) x q k);
        }

    pub snapshot_keeps : Copied from_b
    snapshot_keeps = by_law (snapshot_on vs cs ks es b x place) l from_b snapshot_ruled (snapshot_lossless was (snapshot_in b) x)

  -- ---- volume from a logref

  module _ (log : Id) (lsn place : ℕ) (l : Leaves vs cs ks es out (logref_on vs cs ks es log lsn x place) r vs' cs' ks' es' out') where
    abbrev from_log : Change
    from_log = copying_ref log lsn x

    logref_ruled : (m : Made) → logref_on vs cs ks es log lsn x place ≡ done m → RuledCopy (logref_on vs cs ks es log lsn x place) l from_log m
    unfolding logref_on copy_ok does typed
    logref_ruled m e =
        lent_done (copy_ok vs cs ks es) _ e λ ok e1.
        after_asking (logref_in lsn place) _ e1 λ args e2.
        record {
          volumes_formed = and_fst (volumes_ok vs) (logs_ok cs ks es) ok;
          lent_formed = and_snd (volumes_ok vs) (logs_ok cs ks es) ok;
          types = types;
          is = ap (λ (y : Answer Made). (outcome was y (λ z. with_logs (with_volumes was z.1) z.2)).1) e2;
          rooms = from_logref_rooms (volumes_in vs) (logs_in cs ks es) log lsn x m e2;
        }

    pub logref_keeps : Copied from_log
    logref_keeps = by_law (logref_on vs cs ks es log lsn x place) l from_log logref_ruled (logref_lossless was log lsn x)
