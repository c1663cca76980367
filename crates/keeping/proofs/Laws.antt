-- The frame theorem (T5) over the contract of a call that changes one table, and that a formed table stays formed (T2): a refusal leaves every byte, so every record; an answer's table is formed (rules `Kept`) and of the same room, so the bytes that it is laid over hold it, and
-- the rules' frame theorem speaks of it.
use Rattle.std.proofs.Common.{◌≡◌, ℕ, Bool, true, ◌&&◌, List, sym, refl, ap, ◌∙◌, subst}
use Prim.Native.Nat.{Ordering}
use Rattle.basics.specs.Answers.{Answer, refused, done}
use Rattle.rules.specs.Tables.{Table, formed}
use Rattle.rules.specs.Calls.{Tables, Change, does, outcome, well_formed, typed}
use Rattle.rules.proofs.TableLaws.{cases}
use Rattle.rules.proofs.Kept.{kept}
use Rattle.layout.specs.Codecs.{Codec}
use Rattle.layout.specs.Tables.{formed_in, table_in, laid_over}
use Rattle.layout.specs.Lent.{lent, after}
use Rattle.layout.proofs.LentLaws.{lent_no, lent_yes}
use Rattle.rows.proofs.Rows.{Layout, formed_two, laid_holds}
use Rattle.keeping.specs.Frame.{Keeps}
use Rattle.keeping.specs.Stays.{StaysFormed}
use Rattle.keeping.proofs.Kept.{does_keeps, same_keeps}

-- `was` and `left` are a table's bytes before and after the call, a is the rule's answer, `table` what of it is laid over the bytes, and `put` has a table in its place among the six
module _ {R K : Type 0} {c : Codec R} {s k : ℕ} {form : R → Bool} {key : R → K} {order : K → K → Ordering} (L : Layout c s k form key order) {A : Type 0} (was left : List ℕ) (ok : Bool) (a : Answer A)
    (table : A → Table R) (put : Table R → Tables) (call : Change) where
  -- what is to be known of a rule, past 20
  pub record Ruled : Type 0 where
    pub lent_formed : formed_in c k form was ≡ true
    pub well : well_formed (put (table_in c was)) ≡ true
    pub types : typed call ≡ true
    pub is : does (put (table_in c was)) call ≡ outcome (put (table_in c was)) a (λ x. put (table x))
    pub slot : (w : Table R) → well_formed (put w) ≡ true → formed key order form w ≡ true
    pub room : (x : A) → a ≡ done x → (table x).room ≡ (table_in c was).room

  -- the frame theorem, and the table formed still
  abbrev Holds : Type 0
  Holds = Keeps (put (table_in c was)) call (put (table_in c left)) × StaysFormed (formed_in c k form) was left

  same : left ≡ was → Holds
  same l = (subst (λ (b : List ℕ). Keeps (put (table_in c was)) call (put (table_in c b))) (sym l) (same_keeps (put (table_in c was)) call), λ f. ap (formed_in c k form) l ∙ f)

  laid : Ruled → (x : A) → a ≡ done x → left ≡ laid_over c (table x) was → Holds
  laid h x e l =
      let t : Tables = put (table_in c was) in
      let d : (does t call).1 ≡ put (table x) = ap (λ (y : ℕ × Tables). y.1) h.is ∙ ap (λ (y : Answer A). (outcome t y (λ z. put (table z))).1) e in
      let f : formed key order form (table x) ≡ true = h.slot (table x) (ap well_formed (sym d) ∙ kept t call h.types h.well) in
      let g = laid_holds L (table x) was f (h.room x e) (formed_two L was h.lent_formed) in
      (subst (λ (u : Tables). Keeps t call u) (d ∙ ap put (sym (ap (table_in c) l ∙ g.table))) (does_keeps t call), λ z. ap (formed_in c k form) l ∙ g.again)

  pub keeps : left ≡ after c table was (lent ok a) → (ok ≡ true → Ruled) → Keeps (put (table_in c was)) call (put (table_in c left)) × StaysFormed (formed_in c k form) was left
  unfolding after
  keeps e rule = cases ok (λ y. go (rule y) a refl (e ∙ ap (after c table was) (lent_yes ok a y))) (λ n. same (e ∙ ap (after c table was) (lent_no ok a n)))
    where
      go : Ruled → (b : Answer A) → a ≡ b → left ≡ after c table was a → Holds
      go h (refused n) q l = same (l ∙ ap (after c table was) q)
      go h (done x) q l = laid h x q (l ∙ ap (after c table was) q)
