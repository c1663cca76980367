-- The ends of the calls on tags: for each way out of the code, the rule's answer. Every rule asks 20 and then 1 (`asking`); once the bytes are a table and the name has a
-- name's length, what is left is what the lookup found, the removal, or the store where it fits.
use Rattle.std.proofs.Common.{◌≡◌, ℕ, ◌<◌, ◌≤◌, Bool, true, false, ◌&&◌, leb, List, length, sym, ap, ◌∙◌, ap₂, arith, le-leb, Result, Ok, Err}
use mathlib.Core.Option.{Option, none, some, map}
use borrow.Author.Tests.{lt-leb}
use Rattle.basics.specs.Answers.{Answer, refused, done, ask, ◌>>◌}
use Rattle.basics.specs.Orders.{bytes}
use Rattle.rules.specs.Lists.{is_some}
use Rattle.rules.specs.Records.{Id, Name, Tag, tag_key}
use Rattle.rules.specs.Forms.{name_length}
use Rattle.rules.specs.Tables.{Table, fits, store, remove, same_id, get_tag, tags_formed}
use Rattle.rules.specs.Reads.{tagged, tag_read, tag_exists, tag_delete, tag_replace}
use Rattle.rules.proofs.TableLaws.{and_both}
use Rattle.layout.specs.Lent.{lent}
use Rattle.layout.specs.Records.{tag_of}
use Rattle.layout.specs.Tables.{tags_in, tags_ok}
use Rattle.layout.proofs.LentLaws.{past_20}
use Rattle.rows.specs.Lookups.{nth, at_spot}
use Rattle.rows.proofs.Rows.{formed_rules}
use Rattle.rows.proofs.Tables.{tags}

-- ---- arguments

-- a name's length by the code's tests
pub empty_name : (name : Name) → length name ≡ 0 → false ≡ name_length name
unfolding name_length
empty_name name e = sym (ap (λ (b : Bool). b && leb (length name) 32) (lt-leb 1 (length name) (omega arith)))

pub long_name : (name : Name) → 32 < length name → false ≡ name_length name
unfolding name_length
long_name name h = sym (ap₂ ◌&&◌ (le-leb 1 (length name) (omega arith)) (lt-leb (length name) 32 h))

pub name_fits : (name : Name) → (length name ≡ 0 → ⊥) → length name ≤ 32 → true ≡ name_length name
unfolding name_length
name_fits name n h = sym (and_both (le-leb 1 (length name) (omega arith)) (le-leb (length name) 32 h))

-- ---- what was found

module _ (t : List ℕ) (name : Name) (o : Result ℕ ℕ) (i : ℕ) (says : at_spot o (tags_in t).rows ≡ get_tag (tags_in t) name) where
  -- the tag at the spot that was found
  pub here : o ≡ Ok i → nth i (tags_in t).rows ≡ get_tag (tags_in t) name
  here a = ap (λ (p : Result ℕ ℕ). at_spot p (tags_in t).rows) (sym a) ∙ says

  -- in a gap there is none
  pub nowhere : o ≡ Err i → get_tag (tags_in t) name ≡ none
  nowhere a = sym says ∙ ap (λ (p : Result ℕ ℕ). at_spot p (tags_in t).rows) a

  -- the volume that the tag there names
  pub names : o ≡ Ok i → (vid : Id) → map (λ (g : Tag). g.vid) (nth i (tags_in t).rows) ≡ some vid → some vid ≡ tagged (tags_in t) name
  names a vid e = sym e ∙ ap (map (λ (g : Tag). g.vid)) (here a)

  pub names_none : o ≡ Err i → none ≡ tagged (tags_in t) name
  names_none a = ap (map (λ (g : Tag). g.vid)) (sym (nowhere a))

-- ---- 20, 1

module _ {A : Type 0} (t : List ℕ) (name : Name) (rest : Answer A) where
  -- what every call on tags asks first
  abbrev asking : Answer A
  asking = ask (tags_formed (tags_in t)) 20 >> (ask (name_length name) 1 >> rest)

  module _ (ok : tags_ok t ≡ true) where
    by_name : lent (tags_ok t) asking ≡ (ask (name_length name) 1 >> rest)
    by_name = past_20 (tags_ok t) (tags_formed (tags_in t)) (ask (name_length name) 1 >> rest) ok (formed_rules tags t ok)

    no_name : name_length name ≡ false → lent (tags_ok t) asking ≡ refused 1
    no_name n = by_name ∙ ap (λ (b : Bool). ask b 1 >> rest) n

    past_1 : name_length name ≡ true → lent (tags_ok t) asking ≡ rest
    past_1 n = by_name ∙ ap (λ (b : Bool). ask b 1 >> rest) n

module _ (t : List ℕ) (name : Name) (ok : tags_ok t ≡ true) where
  -- 1 of each call
  module _ (n : name_length name ≡ false) where
    pub read_no_name : lent (tags_ok t) (tag_read (tags_in t) name) ≡ refused 1
    unfolding tag_read
    read_no_name = no_name t name (done (tagged (tags_in t) name)) ok n

    pub exists_no_name : lent (tags_ok t) (tag_exists (tags_in t) name) ≡ refused 1
    unfolding tag_exists
    exists_no_name = no_name t name (done (is_some (get_tag (tags_in t) name))) ok n

    pub delete_no_name : lent (tags_ok t) (tag_delete (tags_in t) name) ≡ refused 1
    unfolding tag_delete
    delete_no_name = no_name t name (done (remove (λ g. same_id name g.name) (tags_in t))) ok n

  -- and past it
  module _ (n : name_length name ≡ true) where
    pub read_is : lent (tags_ok t) (tag_read (tags_in t) name) ≡ done (tagged (tags_in t) name)
    unfolding tag_read
    read_is = past_1 t name (done (tagged (tags_in t) name)) ok n

    pub exists_is : lent (tags_ok t) (tag_exists (tags_in t) name) ≡ done (is_some (get_tag (tags_in t) name))
    unfolding tag_exists
    exists_is = past_1 t name (done (is_some (get_tag (tags_in t) name))) ok n

    pub delete_is : lent (tags_ok t) (tag_delete (tags_in t) name) ≡ done (remove (λ g. same_id name g.name) (tags_in t))
    unfolding tag_delete
    delete_is = past_1 t name (done (remove (λ g. same_id name g.name) (tags_in t))) ok n

-- ---- replacement: 20, 1, 19

module _ (t : List ℕ) (name : Name) (vid : Id) (ok : tags_ok t ≡ true) where
  -- the table with the tag
  abbrev pub stored : Table Tag
  stored = store tag_key bytes (tag_of (name, vid)) (tags_in t)

  abbrev storing : Answer (Option Id × Table Tag)
  storing = ask (fits stored) 19 >> done (tagged (tags_in t) name, stored)

  pub replace_no_name : name_length name ≡ false → lent (tags_ok t) (tag_replace (tags_in t) name vid) ≡ refused 1
  unfolding tag_replace
  replace_no_name n = no_name t name storing ok n

  module _ (n : name_length name ≡ true) where
    pub replace_full : fits stored ≡ false → lent (tags_ok t) (tag_replace (tags_in t) name vid) ≡ refused 19
    unfolding tag_replace
    replace_full f = past_1 t name storing ok n ∙ ap (λ (b : Bool). ask b 19 >> done (tagged (tags_in t) name, stored)) f

    pub replace_is : fits stored ≡ true → lent (tags_ok t) (tag_replace (tags_in t) name vid) ≡ done (tagged (tags_in t) name, stored)
    unfolding tag_replace
    replace_is f = past_1 t name storing ok n ∙ ap (λ (b : Bool). ask b 19 >> done (tagged (tags_in t) name, stored)) f
