-- A gift is what the masks of sorted windows give: those of the windows that the notes know, and of the others what is left without the pages of the earlier commits. Bit by bit the masks have the free
-- pages, and one set in normal form has just those.
use Rattle.std.specs.Prelude.{◌≡◌, ℕ, zero, suc, ◌+◌, ◌*◌, ◌<◌, ◌≤◌, Bool, true, false, not, ◌&&◌, ◌||◌, List, [], ◌∷◌, length, get_or}
use mathlib.Core.Path.{refl, sym, ap, ◌∙◌, subst}
use mathlib.Core.Option.{Option, none, some}
use mathlib.Core.Bool.{or-false}
use native.Mathlib.Omega.{arith}
use borrow.Author.Tests.{leb-true}
use lib.Bits.{bit_or, or_lt}
use Rattle.pageset.specs.Sets.{bit, holds, normal_form, zero_window}
use Rattle.pageset.proofs.BitLaws.{bit_or_lem, bit_none}
use Rattle.rules.specs.Lists.{is_some}
use Rattle.rules.specs.Records.{Pages, Segment, Commit}
use Rattle.rules.specs.Pages.{is_empty}
use Rattle.rules.specs.Write.{pages_of}
use Rattle.rules.specs.Walk.{gift}
use Rattle.rules.proofs.TableLaws.{and_fst, and_snd, clash}
use Rattle.rules.proofs.PageLaws.{holds_empty}
use Rattle.masks.specs.Masks.{given, more_masks, no_masks}
use Rattle.masks.proofs.GivenLaws.{more_at, length_more, none_at, none_empty, given_is}
use Rattle.notes.specs.declared.Notes.{Notes}
use Rattle.notes.specs.Known.{Known}
use Rattle.notes.proofs.NoteLaws.{known_same}
use Rattle.gifts.specs.Held.{held_by, less_all, Small, free, Sorted, AsSorted}
use Rattle.gifts.proofs.HeldLaws.{gift_normal, gift_holds, length_all, all_bit, all_small}

-- at most 32 windows
pub windows_few : (ws : Pages) → normal_form ws ≡ true → length ws ≤ 32
unfolding normal_form
windows_few ws e = leb-true (length ws) 32 (search (and_fst, and_snd))

module _ (count : ℕ) (cs : List Commit) (c : Commit) (e : normal_form (pages_of c.segment) ≡ true) where
  abbrev ws : Pages
  ws = pages_of c.segment

  -- a page of no window is not free
  none_free : (p : ℕ) → holds ws p ≡ false → free (held_by cs) count ws p ≡ false
  none_free p z = rw z

  -- masks that have just the free pages
  gives : (ms : List ℕ) → length ms ≡ 32 → Small ws ms → ((i : ℕ) → i < length ws → (b : ℕ) → b < 64 → bit (get_or ms i 0) b ≡ free (held_by cs) count ws ((get_or ws i zero_window).index * 64 + b)) → given ws ms ≡ gift count cs c
  gives ms l s h = given_is (free (held_by cs) count ws) ws ms (gift count cs c) e (gift_normal count cs c e) (omega (arith, windows_few ws e)) s h none_free (gift_holds count cs c e)

  -- whether the masks have a page
  pub some_is : (ms : List ℕ) (n : ℕ) (g : Pages) → length ms ≡ 32 → n ≡ length ws → given ws ms ≡ g → not (no_masks n ms) ≡ not (is_empty g)
  some_is ms n g l k q = ap not (ap (λ (m : ℕ). no_masks m ms) k ∙ none_empty ws ms (omega (arith, windows_few ws e)) ∙ ap is_empty q)

  module _ (left ask : List ℕ) (l : length left ≡ 32) (m : length ask ≡ 32) (s : Sorted (held_by cs) count ws left ask) (sl : Small ws left) (sa : Small ws ask) where
    -- nothing is asked for
    pub known_gift : no_masks (length ws) ask ≡ true → given ws left ≡ gift count cs c
    known_gift z = gives left l sl (λ i h b k.
        sym (ap (λ (a : ℕ). bit (get_or left i 0) b || (bit a b && not (held_by cs ((get_or ws i zero_window).index * 64 + b)))) (none_at (length ws) ask i z h (omega (arith, windows_few ws e))) ∙ ap (λ (x : Bool). bit (get_or left i 0) b || (x && not (held_by cs ((get_or ws i zero_window).index * 64 + b)))) (bit_none b) ∙ or-false (bit (get_or left i 0) b))
        ∙ s i h b k)

    -- the earlier commits are asked
    pub asked_gift : (ks ms : List ℕ) → ks ≡ less_all ws cs ask → ms ≡ more_masks (length ws) left ks → given ws ms ≡ gift count cs c
    asked_gift ks ms f q = gives ms (ap length q ∙ length_more (length ws) left ks ∙ l) small has
      where
        long : length ks ≡ 32
        long = ap length f ∙ length_all ws cs ask (omega (arith, windows_few ws e)) ∙ m

        at : (i : ℕ) → i < length ws → get_or ms i 0 ≡ bit_or (get_or left i 0) (get_or ks i 0)
        at i h = ap (λ (x : List ℕ). get_or x i 0) q ∙ more_at (length ws) left ks i h (omega (arith, windows_few ws e)) (omega (arith, long, windows_few ws e))

        small : Small ws ms
        small i h =
            let k = all_small ws cs ask (omega (arith, windows_few ws e)) sa i h in
            let y = ap (λ (x : List ℕ). get_or x i 0) f in
            let z = at i h in
            let b = or_lt 64 (get_or left i 0) (get_or ks i 0) (sl i h) (omega arith) in
            omega arith

        has : (i : ℕ) → i < length ws → (b : ℕ) → b < 64 → bit (get_or ms i 0) b ≡ free (held_by cs) count ws ((get_or ws i zero_window).index * 64 + b)
        has i h b k =
            ap (λ (x : ℕ). bit x b) (at i h)
            ∙ bit_or_lem (get_or left i 0) (get_or ks i 0) b
            ∙ ap (λ (x : Bool). bit (get_or left i 0) b || x) (ap (λ (x : List ℕ). bit (get_or x i 0) b) f ∙ all_bit ws cs ask i h (omega (arith, windows_few ws e)) b k)
            ∙ s i h b k

none_masks : (ms : List ℕ) → no_masks 0 ms ≡ true
unfolding no_masks
none_masks ms = refl

-- where some mask has a page there is one
pub none_masked : (n : ℕ) (ms : List ℕ) → no_masks n ms ≡ false → 0 < n
none_masked zero ms z = absurd (clash (none_masks ms) z)
none_masked (suc n) ms z = omega arith

-- no segment: no gift, and no page more is held
pub no_windows : (o : Option Segment) → is_some o ≡ false → length (pages_of o) ≡ 0
no_windows none e = refl
no_windows (some s) e = absurd (clash refl e)

module _ (count : ℕ) (cs : List Commit) (c : Commit) (e : normal_form (pages_of c.segment) ≡ true) (z : is_some c.segment ≡ false) where
  pub missing_gift : (left : List ℕ) → length left ≡ 32 → given (pages_of c.segment) left ≡ gift count cs c
  missing_gift left l = let n = no_windows c.segment z in known_gift count cs c e left left l l (λ i h. absurd (omega arith)) (λ i h. absurd (omega arith)) (λ i h. absurd (omega arith)) (ap (λ (m : ℕ). no_masks m left) n ∙ none_masks left)

  pub missing_known : (m : Notes) → Known (held_by cs) m → Known (held_by (c ∷ cs)) m
  unfolding held_by
  missing_known m k = known_same (held_by cs) (held_by (c ∷ cs)) m (λ p. sym (ap (λ (b : Bool). held_by cs p || b) (none_held p) ∙ or-false (held_by cs p))) k
    where
      nil : (o : Option Segment) → is_some o ≡ false → pages_of o ≡ []
      nil none q = refl
      nil (some s) q = absurd (clash refl q)

      none_held : (p : ℕ) → holds (pages_of c.segment) p ≡ false
      none_held p = ap (λ (s : Pages). holds s p) (nil c.segment z) ∙ holds_empty p

-- ---- a gift made: whether it has a page, its masks, and the notes

module _ (count : ℕ) (cs : List Commit) (c : Commit) (e : normal_form (pages_of c.segment) ≡ true) where
  abbrev Made : Bool → List ℕ → Notes → Type 0
  Made r left notes = (r ≡ not (is_empty (gift count cs c))) × ((given (pages_of c.segment) left ≡ gift count cs c) × Known (held_by (c ∷ cs)) notes)

  pub made_none : is_some c.segment ≡ false → (left : List ℕ) (notes : Notes) → length left ≡ 32 → Known (held_by cs) notes → Made false left notes
  made_none z left notes l k =
      let g = missing_gift count cs c e z left l in
      let n = no_windows c.segment z in
      (ap not (sym (none_masks left) ∙ ap (λ (m : ℕ). no_masks m left) (sym n)) ∙ some_is count cs c e left (length (pages_of c.segment)) (gift count cs c) l refl g, (g, missing_known count cs c e z notes k))

  -- the windows of the set as they stand, sorted
  module _ (us : Pages) (q : pages_of c.segment ≡ us) (n : ℕ) (many : length us ≡ n) (notes notes' : Notes) (left ask : List ℕ) (l : length left ≡ 32) (m : length ask ≡ 32)
      (sorts : AsSorted us count notes notes' left ask) (sl : Small us left) (sa : Small us ask) (k : Known (held_by cs) notes) where
    abbrev own : Pages
    own = pages_of c.segment

    count_is : n ≡ length own
    count_is = sym many ∙ ap length (sym q)

    sorted : Sorted (held_by cs) count own left ask
    sorted = subst (λ (x : Pages). Sorted (held_by cs) count x left ask) (sym q) (sorts (held_by cs) k).0

    noted : Known (held_by (c ∷ cs)) notes'
    unfolding held_by
    noted = known_same (λ p. held_by cs p || holds us p) (held_by (c ∷ cs)) notes' (λ p. ap (λ (x : Pages). held_by cs p || holds x p) (sym q)) (sorts (held_by cs) k).1

    left_small : Small own left
    left_small = subst (λ (x : Pages). Small x left) (sym q) sl

    ask_small : Small own ask
    ask_small = subst (λ (x : Pages). Small x ask) (sym q) sa

    pub made_known : no_masks n ask ≡ true → (x : Bool) → x ≡ no_masks n left → Made (not x) left notes'
    made_known z x y =
        let g = known_gift count cs c e left ask l m sorted left_small ask_small (ap (λ (h : ℕ). no_masks h ask) (sym count_is) ∙ z) in
        (ap not y ∙ some_is count cs c e left n (gift count cs c) l count_is g, (g, noted))

    pub made_asked : (ms : List ℕ) → ms ≡ more_masks n left (less_all us cs ask) → (x : Bool) → x ≡ not (no_masks n ms) → Made x ms notes'
    made_asked ms h x y =
        let g = asked_gift count cs c e left ask l m sorted left_small ask_small (less_all us cs ask) ms (ap (λ (w : Pages). less_all w cs ask) (sym q)) (h ∙ ap (λ (d : ℕ). more_masks d left (less_all us cs ask)) count_is) in
        (y ∙ some_is count cs c e ms n (gift count cs c) (ap length h ∙ length_more n left (less_all us cs ask) ∙ l) count_is g, (g, noted))
