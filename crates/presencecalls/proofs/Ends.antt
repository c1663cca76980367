-- The ends of the calls on present pages: for each way out of the code, the rule's answer. Every rule asks 20 and then 1; past them stands whether the page is
-- present, the store where it fits, or the removal.
use Rattle.std.proofs.Common.{◌≡◌, ℕ, ◌<◌, ◌≤◌, Bool, true, false, ◌&&◌, leb, List, sym, ap, ◌∙◌, ap₂, arith, le-ltb, lt-ltb, le-leb}
use borrow.Author.Tests.{lt-leb}
use Rattle.basics.specs.Answers.{Answer, refused, done, ask, ◌>>◌}
use Rattle.basics.specs.Numbers.{counts}
use Rattle.basics.specs.Orders.{sid_page}
use Rattle.basics.proofs.AskLaws.{zero_stopped, zero_passed}
use Rattle.rules.specs.Lists.{is_some}
use Rattle.rules.specs.Records.{Id, Present, present_key}
use Rattle.rules.specs.Tables.{Table, fits, store, remove, presence_formed, get_present}
use Rattle.rules.specs.Reads.{present_in, page_present, page_mark, page_remove, pages_remove}
use Rattle.layout.specs.Lent.{lent}
use Rattle.layout.specs.Tables.{presence_in, presence_ok}
use Rattle.layout.proofs.LentLaws.{past_20}
use Rattle.rows.proofs.Rows.{formed_rules}
use Rattle.rows.proofs.Tables.{presence}
use Rattle.presence.specs.Pages.{page_of}

-- the table with a page
abbrev pub marked : List ℕ → Id → ℕ → Table Present
marked t sid page = store present_key sid_page (page_of sid page) (presence_in t)

module _ (t : List ℕ) (ok : presence_ok t ≡ true) (sid : Id) where
  formed : presence_formed (presence_in t) ≡ true
  formed = formed_rules presence t ok

  -- ---- one page: 20, 1

  module _ (page : ℕ) where
    zero_page : {A : Type 0} (rest : Answer A) → page ≡ 0 → lent (presence_ok t) (ask (presence_formed (presence_in t)) 20 >> (ask (counts page) 1 >> rest)) ≡ refused 1
    zero_page rest z = past_20 (presence_ok t) (presence_formed (presence_in t)) (ask (counts page) 1 >> rest) ok formed ∙ sym (zero_stopped rest page z)

    past_1 : {A : Type 0} (rest : Answer A) → (page ≡ 0 → ⊥) → lent (presence_ok t) (ask (presence_formed (presence_in t)) 20 >> (ask (counts page) 1 >> rest)) ≡ rest
    past_1 rest z = past_20 (presence_ok t) (presence_formed (presence_in t)) (ask (counts page) 1 >> rest) ok formed ∙ sym (zero_passed rest page z)

    pub present_zero : page ≡ 0 → lent (presence_ok t) (page_present (presence_in t) sid page) ≡ refused 1
    unfolding page_present
    present_zero z = zero_page (done (is_some (get_present (presence_in t) sid page))) z

    pub present_is : (page ≡ 0 → ⊥) → lent (presence_ok t) (page_present (presence_in t) sid page) ≡ done (is_some (get_present (presence_in t) sid page))
    unfolding page_present
    present_is z = past_1 (done (is_some (get_present (presence_in t) sid page))) z

    pub remove_zero : page ≡ 0 → lent (presence_ok t) (page_remove (presence_in t) sid page) ≡ refused 1
    unfolding page_remove
    remove_zero z = zero_page (done (remove (present_in sid page page) (presence_in t))) z

    pub remove_is : (page ≡ 0 → ⊥) → lent (presence_ok t) (page_remove (presence_in t) sid page) ≡ done (remove (present_in sid page page) (presence_in t))
    unfolding page_remove
    remove_is z = past_1 (done (remove (present_in sid page page) (presence_in t))) z

    -- marking: 20, 1, 19

    abbrev marking : Answer (Table Present)
    marking = ask (fits (marked t sid page)) 19 >> done (marked t sid page)

    pub mark_zero : page ≡ 0 → lent (presence_ok t) (page_mark (presence_in t) sid page) ≡ refused 1
    unfolding page_mark
    mark_zero z = zero_page marking z

    pub mark_full : (page ≡ 0 → ⊥) → fits (marked t sid page) ≡ false → lent (presence_ok t) (page_mark (presence_in t) sid page) ≡ refused 19
    unfolding page_mark
    mark_full z f = past_1 marking z ∙ ap (λ (b : Bool). ask b 19 >> done (marked t sid page)) f

    pub mark_is : (page ≡ 0 → ⊥) → fits (marked t sid page) ≡ true → lent (presence_ok t) (page_mark (presence_in t) sid page) ≡ done (marked t sid page)
    unfolding page_mark
    mark_is z f = past_1 marking z ∙ ap (λ (b : Bool). ask b 19 >> done (marked t sid page)) f

  -- ---- a range of pages: 20, 1, 2

  module _ (a b : ℕ) where
    removing : Bool → Bool → Bool → Answer (Table Present)
    removing x y z = ask (x && y) 1 >> (ask z 2 >> done (remove (present_in sid a b) (presence_in t)))

    asked : lent (presence_ok t) (pages_remove (presence_in t) sid a b) ≡ removing (counts a) (counts b) (leb a b)
    unfolding pages_remove removing
    asked = past_20 (presence_ok t) (presence_formed (presence_in t)) (removing (counts a) (counts b) (leb a b)) ok formed

    pub range_first : a ≡ 0 → lent (presence_ok t) (pages_remove (presence_in t) sid a b) ≡ refused 1
    unfolding removing
    range_first z = asked ∙ ap (λ (x : Bool). removing x (counts b) (leb a b)) (le-ltb 0 a (omega arith))

    module _ (n : a ≡ 0 → ⊥) where
      first_is : counts a ≡ true
      first_is = lt-ltb 0 a (omega arith)

      pub range_last : b ≡ 0 → lent (presence_ok t) (pages_remove (presence_in t) sid a b) ≡ refused 1
      unfolding removing
      range_last z = asked ∙ ap₂ (λ (x y : Bool). removing x y (leb a b)) first_is (le-ltb 0 b (omega arith))

      module _ (m : b ≡ 0 → ⊥) where
        ordered : (z : Bool) → leb a b ≡ z → lent (presence_ok t) (pages_remove (presence_in t) sid a b) ≡ removing true true z
        ordered z e = asked ∙ ap₂ (λ (x y : Bool). removing x y (leb a b)) first_is (lt-ltb 0 b (omega arith)) ∙ ap (removing true true) e

        pub range_turned : b < a → lent (presence_ok t) (pages_remove (presence_in t) sid a b) ≡ refused 2
        unfolding removing
        range_turned h = ordered false (lt-leb a b h)

        pub range_is : a ≤ b → lent (presence_ok t) (pages_remove (presence_in t) sid a b) ≡ done (remove (present_in sid a b) (presence_in t))
        unfolding removing
        range_is h = ordered true (le-leb a b h)
