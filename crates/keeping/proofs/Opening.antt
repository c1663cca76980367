-- The law over open, which changes volumes alone: 3 for a place of another length leaves them too, so it is asked beside 20.
use Rattle.std.proofs.Common.{◌≡◌, ℕ, Bool, true, false, ◌&&◌, eqb, List, length, sym, refl, ap, ◌∙◌}
use mathlib.Core.Option.{Option, none, some}
use Rattle.basics.specs.Answers.{Answer, done, ask, ◌>>◌}
use Rattle.basics.specs.Orders.{bytes}
use Rattle.rules.specs.Lists.{given}
use Rattle.rules.specs.Records.{Id, Commit, Volume, volume_key}
use Rattle.rules.specs.Forms.{id_form}
use Rattle.rules.specs.Tables.{Table, fits, store, volumes_formed, commits_formed}
use Rattle.rules.specs.Open.{Ids, Asked, asked_volume, agrees_on, opened, open_volume}
use Rattle.rules.specs.Calls.{opening, empty, does, typed}
use Rattle.rules.proofs.TableLaws.{and_fst, and_snd, and_both}
use Rattle.rules.proofs.AnswerLaws.{done_same, asked}
use Rattle.layout.specs.Codecs.{Codec}
use Rattle.layout.specs.Records.{volume_bytes}
use Rattle.layout.specs.Tables.{volumes_in, volumes_ok, commits_in, commits_ok}
use Rattle.layout.specs.Lent.{lent, after}
use Rattle.rows.proofs.Rows.{formed_rules}
use Rattle.rows.proofs.Tables as Layouts
use Rattle.opencalls.specs.Opens.{asked_by, new_volume, all_free, open_in}
use Rattle.keeping.specs.Frame.{Keeps}
use Rattle.keeping.specs.Stays.{StaysFormed}
use Rattle.keeping.specs.Holding.{volumes_and}
use Rattle.keeping.proofs.Laws.{keeps}
use Rattle.keeping.proofs.Rules.{well_of, volumes_of, no_presence, no_tags}

-- a number that is asked first leaves the bytes, as 20 does
asked_first : {R A : Type 0} (c : Codec R) (table : A → Table R) (was : List ℕ) (ok q : Bool) (n : ℕ) (a : Answer A) → after c table was (lent ok (ask q n >> a)) ≡ after c table was (lent (ok && q) a)
unfolding after lent
asked_first c table was true true n a = refl
asked_first c table was true false n a = refl
asked_first c table was false q n a = refl

open_room : (vs : Table Volume) (cs : Table Commit) (a : Asked) (x : Ids) (r : Volume × Table Volume) → open_volume vs cs a x ≡ done r → r.1.room ≡ vs.room
unfolding open_volume
open_room vs cs a x r e = asked (volumes_formed vs && commits_formed cs) 20 _ e λ f e1. by (asked_volume vs a.vid) e1
  where
    by : (o : Option Volume) → opened vs cs a x o ≡ done r → r.1.room ≡ vs.room
    by (some v) z = asked (agrees_on a.remote v) 6 _ z λ six z1. sym (ap (λ (y : Volume × Table Volume). y.1.room) (done_same z1))
    by none z =
        asked (all_free vs cs a x) 5 _ z λ five z1.
        asked (fits (store volume_key bytes (new_volume cs a x) vs)) 19 _ z1 λ room z2. sym (ap (λ (y : Volume × Table Volume). y.1.room) (done_same z2))

pub open_keeps : (t u cs : List ℕ) (a : Asked) (x : Ids) (out : List ℕ) → typed (opening a x) ≡ true
    → u ≡ after volume_bytes (λ (r : Volume × Table Volume). r.1) t (lent (volumes_ok t && commits_ok cs) (open_in (volumes_in t) (commits_in cs) a x out))
    → Keeps (volumes_and (commits_in cs) (volumes_in t)) (opening a x) (volumes_and (commits_in cs) (volumes_in u)) × StaysFormed volumes_ok t u
unfolding does open_in
open_keeps t u cs a x out types e =
    let both = volumes_ok t && commits_ok cs in
    let sized = eqb (length out) 117 in
    let rule = open_volume (volumes_in t) (commits_in cs) a x in
    keeps Layouts.volumes t u (both && sized) rule (λ (r : Volume × Table Volume). r.1) (volumes_and (commits_in cs)) (opening a x) (e ∙ asked_first volume_bytes (λ (r : Volume × Table Volume). r.1) t both sized 3 rule) (λ ok.
    let b = and_fst both sized ok in
    let v = and_fst (volumes_ok t) (commits_ok cs) b in
    record {
      lent_formed = v;
      well = well_of (volumes_in t) (commits_in cs) (empty 0) (empty 0) (formed_rules Layouts.volumes t v) (formed_rules Layouts.commits cs (and_snd (volumes_ok t) (commits_ok cs) b)) no_presence no_tags;
      types = types;
      is = refl;
      slot = λ w h. volumes_of w (commits_in cs) (empty 0) (empty 0) h;
      room = λ r q. open_room (volumes_in t) (commits_in cs) a x r q;
    })

-- ---- what the types of the arguments ensure

given_asked : (b : Bool) (id : Id) → id_form id ≡ true → given id_form (asked_by b id) ≡ true
given_asked true id f = f
given_asked false id f = refl

pub open_typed : (b c d : Bool) (vid local remote vid' local' remote' : Id) → id_form vid ≡ true → id_form local ≡ true → id_form remote ≡ true → id_form vid' ≡ true → id_form local' ≡ true → id_form remote' ≡ true
    → typed (opening (record { vid = asked_by b vid; local = asked_by c local; remote = asked_by d remote }) (record { vid = vid'; local = local'; remote = remote' })) ≡ true
unfolding typed
open_typed b c d vid local remote vid' local' remote' f g h f' g' h' = and_both (and_both (and_both (given_asked b vid f) (given_asked c local g)) (given_asked d remote h)) (and_both (and_both f' g') h')
