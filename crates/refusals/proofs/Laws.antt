-- One law for each form that a contract has: what it says of a refusal is that every lent byte is as found.
use Rattle.std.proofs.Common.{◌≡◌, ℕ, Bool, eqb, List, refl, ap, ◌∙◌, ⊎_elim}
use mathlib.Core.Option.{Option, none, some}
use Rattle.basics.specs.Answers.{Answer, refused, done, code}
use Rattle.rules.specs.Records.{Id, Tag, Volume}
use Rattle.rules.specs.Tables.{Table}
use Rattle.rules.specs.Write.{Logs}
use Rattle.rules.proofs.TableLaws.{cases}
use Rattle.layout.specs.Codecs.{Codec}
use Rattle.layout.specs.Values.{set_bytes}
use Rattle.layout.specs.Records.{volume_bytes, tag_bytes, commit_bytes, checkpoint_bytes, entry_bytes, present_bytes}
use Rattle.layout.specs.Lent.{after, sized}
use Rattle.arguments.specs.declared.Reply.{Reply}
use Rattle.arguments.specs.Replies.{value, value_or, numbered_reply}
use Rattle.arguments.specs.Sets.{SetLeft, SetLeftOr22, LeavesSet, LeavesSetOr22, LeavesCut}
use Rattle.resultlists.specs.Lists.{list_left}
use Rattle.tagcalls.specs.Says.{earlier}
use Rattle.opencalls.specs.Opens as Opens
use Rattle.savecalls.specs.Saving as Saving
use Rattle.copycalls.specs.Making as Making
use Rattle.refusals.specs.Refusals.{AsFound}

-- ---- a value, or a value or nothing, in what is lent for it

module _ {A B : Type 0} (f : A → B) (was : B) where
  pub value_left : (a : Answer A) (r : Reply) (left : B) → (r, left) ≡ value f was a → AsFound r was left
  value_left (refused n) r left e refusal = (ap (λ (x : Reply × B). x.0.found) e, ap (λ (x : Reply × B). x.1) e)
  value_left (done x) r left e refusal = absurd (refusal (ap (λ (x : Reply × B). x.0.code) e))

  pub maybe_left : (a : Answer (Option A)) (r : Reply) (left : B) → (r, left) ≡ value_or f was a → AsFound r was left
  maybe_left (refused n) r left e refusal = (ap (λ (x : Reply × B). x.0.found) e, ap (λ (x : Reply × B). x.1) e)
  maybe_left (done none) r left e refusal = absurd (refusal (ap (λ (x : Reply × B). x.0.code) e))
  maybe_left (done (some x)) r left e refusal = absurd (refusal (ap (λ (x : Reply × B). x.0.code) e))

-- what is lent as two is as found where the pair is; a list and the number of its items are such a pair
both : {B C : Type 0} (r : Reply) (was left : B × C) → AsFound r was left → AsFound r was.0 left.0 × AsFound r was.1 left.1
both {B} {C} r was left e = (λ n. ((e n).0, ap (λ (x : B × C). x.0) (e n).1), λ n. ((e n).0, ap (λ (x : B × C). x.1) (e n).1))

pub list_left_lem : {A : Type 0} (c : Codec A) (was left : List ℕ) (items items' : ℕ) (a : Answer (List A)) (r : Reply) → (r, (left, items')) ≡ list_left c was items a → AsFound r was left × AsFound r items items'
list_left_lem c was left items items' a r e = both r (was, items) (left, items') (value_left _ (was, items) a r (left, items') e)

pub maybe_two : {A B C : Type 0} (f : A → B × C) (was left : B) (was' left' : C) (a : Answer (Option A)) (r : Reply) → (r, (left, left')) ≡ value_or f (was, was') a → AsFound r was left × AsFound r was' left'
maybe_two f was left was' left' a r e = both r (was, was') (left, left') (maybe_left f (was, was') a r (left, left') e)

-- ---- a set, and a cut's two

module _ (found : ℕ) (was : List ℕ) where
  set_left : (a : Answer (ℕ → Bool)) (x : Reply × List ℕ) → SetLeft found was a x → AsFound x.0 was x.1
  set_left (refused n) x e refusal = (ap (λ (y : Reply × List ℕ). y.0.found) e, ap (λ (y : Reply × List ℕ). y.1) e)
  set_left (done f) x e refusal = absurd (refusal (ap (λ (y : Reply). y.code) e.0))

  set_left_22 : (a : Answer (ℕ → Bool)) (x : Reply × List ℕ) → SetLeftOr22 found was a x → AsFound x.0 was x.1
  set_left_22 (refused n) x e refusal = (ap (λ (y : Reply × List ℕ). y.0.found) e, ap (λ (y : Reply × List ℕ). y.1) e)
  set_left_22 (done f) x e refusal =
      ⊎_elim (λ s. absurd (refusal (ap (λ (y : Reply). y.code) s.0)))
      (λ s. (ap (λ (y : Reply × List ℕ). y.0.found) s.0, ap (λ (y : Reply × List ℕ). y.1) s.0)) e

module _ (found : ℕ) (was left : List ℕ) (a : Answer (ℕ → Bool)) (r : Reply) where
  pub leaves_set : LeavesSet found was a (r, left) → AsFound r was left
  leaves_set e = set_left found was (sized set_bytes.size was a) (r, left) e

  pub leaves_set_22 : LeavesSetOr22 found was a (r, left) → AsFound r was left
  leaves_set_22 e = set_left_22 found was (sized set_bytes.size was a) (r, left) e

pub leaves_cut : (was left was' left' : List ℕ) (a b : Answer (ℕ → Bool)) (r : Reply) → LeavesCut was was' a b (r, (left, left')) → AsFound r was left × AsFound r was' left'
leaves_cut was left was' left' a b r e = (
  set_left 1 was (sized set_bytes.size was' (sized set_bytes.size was a)) (r, left) e.0,
  set_left 1 was' (sized set_bytes.size was' (sized set_bytes.size was b)) (r, left') e.1,
)

-- ---- the number of an answer, and the tables and places that it leaves

pub no_value : (n : ℕ) (r : Reply) → r ≡ numbered_reply n → (r.code ≡ 0 → ⊥) → r.found ≡ 0
no_value n r e refusal = cases (eqb n 0) (λ z. absurd (refusal (ap (λ (x : Reply). x.code) e ∙ rw z))) (λ z. ap (λ (x : Reply). x.found) e ∙ rw z)

-- a reply whose refusals are those of the answer a, and have no value
pub record Refuses {A : Type 0} (a : Answer A) (r : Reply) : Type 0 where
  pub by : (r.code ≡ 0 → ⊥) → (n : ℕ) × (a ≡ refused n)
  pub no_answer : (r.code ≡ 0 → ⊥) → r.found ≡ 0

numbered : {A : Type 0} (a : Answer A) (r : Reply) → r ≡ numbered_reply (code a) → Refuses a r
numbered {A} a r number = record { by = go a number; no_answer = no_value (code a) r number }
  where
    go : (b : Answer A) → r ≡ numbered_reply (code b) → (r.code ≡ 0 → ⊥) → (n : ℕ) × (b ≡ refused n)
    go (refused n) e refusal = (n, refl)
    go (done x) e refusal = absurd (refusal (ap (λ (q : Reply). q.code) e))

-- a table, and a place
module _ {A R : Type 0} (c : Codec R) {a : Answer A} {r : Reply} (h : Refuses a r) (was left : List ℕ) where
  table_left : (table : A → Table R) → left ≡ after c table was a → AsFound r was left
  unfolding after
  table_left table e refusal = (h.no_answer refusal, e ∙ ap (after c table was) (h.by refusal).1)

  place_left : (record_of : A → R) → left ≡ Opens.out_after c record_of was a → AsFound r was left
  unfolding Opens.out_after
  place_left record_of e refusal = (h.no_answer refusal, e ∙ ap (Opens.out_after c record_of was) (h.by refusal).1)

-- one table
pub one_left : {A R : Type 0} (c : Codec R) (table : A → Table R) (was left : List ℕ) (a : Answer A) (r : Reply) → r ≡ numbered_reply (code a) → left ≡ after c table was a → AsFound r was left
one_left c table was left a r number e = table_left c (numbered a r number) was left table e

-- open: the volumes and the place
pub open_left : {A R : Type 0} (c : Codec R) (table : A → Table R) (record_of : A → R) (was left out out' : List ℕ) (a : Answer A) (r : Reply) → r ≡ numbered_reply (code a)
    → left ≡ after c table was a → out' ≡ Opens.out_after c record_of out a → AsFound r was left × AsFound r out out'
open_left c table record_of was left out out' a r number e f =
    let h = numbered a r number in
    (table_left c h was left table e, place_left c h out out' record_of f)

-- write a commit: commits, checkpoints and index
pub write_left : (cs ks es cs' ks' es' : List ℕ) (a : Answer Logs) (r : Reply) → r ≡ numbered_reply (code a) → cs' ≡ after commit_bytes (λ (g : Logs). g.commits) cs a
    → ks' ≡ after checkpoint_bytes (λ (g : Logs). g.checkpoints) ks a → es' ≡ after entry_bytes (λ (g : Logs). g.index) es a
    → AsFound r cs cs' × (AsFound r ks ks' × AsFound r es es')
write_left cs ks es cs' ks' es' a r number x y z =
    let h = numbered a r number in
    (table_left commit_bytes h cs cs' _ x, (table_left checkpoint_bytes h ks ks' _ y, table_left entry_bytes h es es' _ z))

-- success: the same, and volumes
pub success_left : (vs cs ks es vs' cs' ks' es' : List ℕ) (a : Answer (Table Volume × Logs)) (r : Reply) → r ≡ numbered_reply (code a)
    → vs' ≡ after volume_bytes (λ (x : Table Volume × Logs). x.0) vs a → cs' ≡ after commit_bytes (λ (x : Table Volume × Logs). x.1.commits) cs a
    → ks' ≡ after checkpoint_bytes (λ (x : Table Volume × Logs). x.1.checkpoints) ks a → es' ≡ after entry_bytes (λ (x : Table Volume × Logs). x.1.index) es a
    → AsFound r vs vs' × (AsFound r cs cs' × (AsFound r ks ks' × AsFound r es es'))
success_left vs cs ks es vs' cs' ks' es' a r number w x y z =
    let h = numbered a r number in
    (table_left volume_bytes h vs vs' _ w, (table_left commit_bytes h cs cs' _ x, (table_left checkpoint_bytes h ks ks' _ y, table_left entry_bytes h es es' _ z)))

-- save: commits, checkpoints, index, presence and the place
pub save_left : (cs ks es ps out : List ℕ) (a : Answer Saving.Saved) (r : Reply) (cs' ks' es' ps' out' : List ℕ) → r ≡ numbered_reply (code a)
    → Saving.Leaves cs ks es ps out a r.code cs' ks' es' ps' out'
    → AsFound r cs cs' × (AsFound r ks ks' × (AsFound r es es' × (AsFound r ps ps' × AsFound r out out')))
unfolding Saving.out_after
save_left cs ks es ps out a r cs' ks' es' ps' out' number l =
    let h = numbered a r number in (
      table_left commit_bytes h cs cs' _ l.of_commits,
      (
        table_left checkpoint_bytes h ks ks' _ l.of_checkpoints,
        (table_left entry_bytes h es es' _ l.of_index, (table_left present_bytes h ps ps' _ l.of_presence, λ n. (h.no_answer n, l.of_out ∙ ap (Saving.out_after out) (h.by n).1))),
      ),
    )

-- ---- replies of their own: tag replacement, copies

replaced : (a : Answer (Option Id × Table Tag)) (was left : Id) (r : Reply) → (r, left) ≡ value_or (λ (v : Id). v) was (earlier a) → Refuses a r
replaced (refused n) was left r e = record { by = λ z. (n, refl); no_answer = λ z. ap (λ (y : Reply × Id). y.0.found) e }
replaced (done (none, t)) was left r e = record { by = λ z. absurd (z (ap (λ (y : Reply × Id). y.0.code) e)); no_answer = λ z. absurd (z (ap (λ (y : Reply × Id). y.0.code) e)) }
replaced (done (some v, t)) was left r e = record { by = λ z. absurd (z (ap (λ (y : Reply × Id). y.0.code) e)); no_answer = λ z. absurd (z (ap (λ (y : Reply × Id). y.0.code) e)) }

-- the tags, and the place of the volume that the tag named before
pub replace_left : (tags tags' : List ℕ) (was left : Id) (a : Answer (Option Id × Table Tag)) (r : Reply) → (r, left) ≡ value_or (λ (v : Id). v) was (earlier a)
    → tags' ≡ after tag_bytes (λ (p : Option Id × Table Tag). p.1) tags a → AsFound r tags tags' × AsFound r was left
replace_left tags tags' was left a r e f = (table_left tag_bytes (replaced a was left r e) tags tags' _ f, maybe_left (λ (v : Id). v) was (earlier a) r left e)

copied : (a : Answer Making.Made) (r : Reply) → r ≡ Making.reply_of a → Refuses a r
copied (refused n) r e = record { by = λ z. (n, refl); no_answer = λ z. ap (λ (y : Reply). y.found) e }
copied (done m) r e = record { by = λ z. absurd (z (ap (λ (y : Reply). y.code) e)); no_answer = λ z. absurd (z (ap (λ (y : Reply). y.code) e)) }

-- volumes, commits, checkpoints, index and the place
pub copy_left : (vs cs ks es out : List ℕ) (a : Answer Making.Made) (r : Reply) (vs' cs' ks' es' out' : List ℕ) → Making.Leaves vs cs ks es out a r vs' cs' ks' es' out'
    → AsFound r vs vs' × (AsFound r cs cs' × (AsFound r ks ks' × (AsFound r es es' × AsFound r out out')))
unfolding Making.out_after
copy_left vs cs ks es out a r vs' cs' ks' es' out' l =
    let h = copied a r l.reply in (
      table_left volume_bytes h vs vs' _ l.of_volumes,
      (
        table_left commit_bytes h cs cs' _ l.of_commits,
        (table_left checkpoint_bytes h ks ks' _ l.of_checkpoints, (table_left entry_bytes h es es' _ l.of_index, λ n. (h.no_answer n, l.of_out ∙ ap (Making.out_after out) (h.by n).1))),
      ),
    )
