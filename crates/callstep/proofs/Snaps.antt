-- The ends of op=open, op=snap and op=pull: the calls' own promises, on identifiers of a last byte. A snap that is refused leaves the slots; only a snapshot sets one.
use Rattle.std.proofs.Common.{◌≡◌, ℕ, ◌&&◌, List, replicate, sym, ap, ◌∙◌, Result, Ok, Err, true}
use mathlib.Core.Option.{Option, none, some}
use Rattle.basics.specs.Answers.{Answer, refused, done, code}
use Rattle.basics.specs.Refusals.{number_of}
use Rattle.basics.specs.declared.refusal.Refusal.{Refusal}
use Rattle.rules.specs.Records.{Id, Volume, Snapshot}
use Rattle.rules.specs.Tables.{Table}
use Rattle.rules.specs.Snapshots.{snapshot}
use Rattle.rules.specs.Sync.{sync}
use Rattle.volume.specs.declared.snapshot.Snapshot.{Snapshot as CodeSnapshot}
use Rattle.volume.specs.Snapshots.{snapshot_says, answer_says, laid_answer, head_of}
use Rattle.volume.proofs.SnapshotLaws.{laid_refused, laid_done}
use Rattle.layout.specs.Tables.{volumes_in, volumes_ok, commits_in, commits_ok}
use Rattle.layout.specs.Lent.{lent}
use Rattle.opencalls.specs.declared.Wanted.{Wanted}
use Rattle.opencalls.specs.Opens.{asked, spares, open_in}
use Rattle.callvalues.specs.Slots.{slot_set, slots_after}
use Rattle.callvalues.specs.Values.{id_of, shortly}
use Rattle.callstep.specs.Steps.{open_on, snap_on, pull_on, snap_head}

-- ---- open

abbrev want : ℕ → Wanted
want b = record { asked = true; id = id_of b; spare = id_of b }

pub open_same : (t u : List ℕ) (vid near far : ℕ) (a b d : Wanted) → a ≡ want vid → b ≡ want near → d ≡ want far
    → lent (volumes_ok t && commits_ok u) (open_in (volumes_in t) (commits_in u) (asked a b d) (spares a b d) (replicate 117 0)) ≡ open_on t u vid near far
unfolding open_on open_in
open_same t u vid near far a b d e f g = rw (e, f, g)

-- ---- pull

pub pull_same : (t u : List ℕ) (vid : ℕ) (id : Id) → id ≡ id_of vid → lent (volumes_ok t && commits_ok u) (sync (volumes_in t) (commits_in u) id) ≡ pull_on t u vid
unfolding pull_on
pull_same t u vid id e = rw e

-- ---- snap

snap_same : (t u : List ℕ) (vid : ℕ) (id : Id) → id ≡ id_of vid → lent (volumes_ok t && commits_ok u) (snapshot (volumes_in t) (commits_in u) id) ≡ snap_on t u vid
unfolding snap_on
snap_same t u vid id e = rw e

module _ (t u : List ℕ) (vid : ℕ) (id : Id) (is : id ≡ id_of vid) (a : Result CodeSnapshot Refusal) (e : answer_says a ≡ laid_answer (lent (volumes_ok t && commits_ok u) (snapshot (volumes_in t) (commits_in u) id)))
    (slot : ℕ) (slots : List ℕ) where
  laid_is : answer_says a ≡ laid_answer (snap_on t u vid)
  laid_is = e ∙ ap laid_answer (snap_same t u vid id is)

  -- a refusal: no head, and the slots as they were
  pub snap_refused : (r : Refusal) (n : ℕ) → a ≡ Err r → n ≡ number_of r
      → (◌≡◌ {A = ℕ × Option (ℕ × ℕ)} (n, none) (code (snap_on t u vid), snap_head (snap_on t u vid))) × (slots ≡ slots_after slot slots (snap_on t u vid))
  snap_refused r n h k =
      let q : snap_on t u vid ≡ refused n = laid_refused (snap_on t u vid) (number_of r) (sym (ap answer_says h) ∙ laid_is) ∙ ap refused (sym k) in
      (ap (λ (x : Answer Snapshot). (code x, snap_head x)) (sym q), ap (slots_after slot slots) (sym q))

  -- a snapshot
  module _ (s : CodeSnapshot) (h : a ≡ Ok s) where
    taken : snap_on t u vid ≡ done (snapshot_says s)
    taken = laid_done (snap_on t u vid) s (sym (ap answer_says h) ∙ laid_is)

    pub snap_head_lem : (o : Option (ℕ × ℕ)) (head : Option (List ℕ × ℕ)) → o ≡ shortly head → head ≡ head_of (snapshot_says s) → ◌≡◌ {A = ℕ × Option (ℕ × ℕ)} (0, o) (code (snap_on t u vid), snap_head (snap_on t u vid))
    snap_head_lem o head f g = ap (λ (x : Option (ℕ × ℕ)). (0, x)) (f ∙ ap shortly g) ∙ ap (λ (x : Answer Snapshot). (code x, snap_head x)) (sym taken)

    pub snap_set : (slots' : List ℕ) → slots' ≡ slot_set slot (snapshot_says s) slots → slots' ≡ slots_after slot slots (snap_on t u vid)
    snap_set slots' f = f ∙ ap (slots_after slot slots) (sym taken)
