-- The pages of a union are those of either set, so those of a joined range are those of both. A window put in changes the mask of its own index alone, to
-- the bits of both, and the windows still rise.
use Rattle.std.proofs.Common.{◌≡◌, ℕ, ◌+◌, ◌/◌, ◌%◌, ◌≤◌, Bool, true, false, cond, ◌&&◌, ◌||◌, eqb, leb, [], ◌∷◌, length, sym, refl, ap, ◌∙◌, arith, ne_eqb, eqb-true, le-leb}
use Prim.Native.Nat.{compare}
use mathlib.Core.Option.{Option, none, some}
use mathlib.Core.Bool.{or_assoc, or-false}
use lib.Bits.{bit_or, or_zero_r}
use Rattle.basics.specs.Answers.{done}
use Rattle.pageset.specs.declared.Window.{Window}
use Rattle.pageset.specs.Sets.{bit, mask_at, holds, rising, normal_form}
use Rattle.pageset.proofs.BitLaws.{bit_none, bit_or_lem}
use Rattle.rules.specs.Records.{Pages}
use Rattle.rules.specs.Pages.{with_window, union}
use Rattle.rules.specs.Tables.{same_id}
use Rattle.rules.specs.Frames.{Part, touching, joined_part, join}
use Rattle.basics.proofs.OrderLaws.{lt_up, up_lawful}
use Rattle.rules.proofs.TableLaws.{cases, orders, missing, option_same, and_fst, and_snd, and_both}
use Rattle.rules.proofs.PageLaws.{mask_below, form_rising, holds_empty}
use Rattle.rules.proofs.AnswerLaws.{done_same, asked}

-- ---- a window put in

rising_with : (lo : ℕ) (w : Window) (s : Pages) → lo ≤ w.index → rising lo s ≡ true → rising lo (with_window w s) ≡ true
unfolding rising with_window
rising_with lo w [] h e = and_both (le-leb lo w.index h) refl
rising_with lo w (v ∷ s) h e =
    let a = and_fst (leb lo v.index) (rising (v.index + 1) s) e in
    let r = and_snd (leb lo v.index) (rising (v.index + 1) s) e in
    orders (compare w.index v.index)
    (λ q. rw q (and_both (le-leb lo w.index h) (and_both (le-leb (w.index + 1) v.index (omega (arith, lt_up w.index v.index q))) r)))
    (λ q. rw q e)
    (λ q. rw q (and_both a (rising_with (v.index + 1) w s (omega (arith, lt_up v.index w.index (up_lawful.turn w.index v.index q))) r)))

-- the mask of a window put in is joined with the one that is there
mask_with : (lo q : ℕ) (w : Window) (s : Pages) → rising lo s ≡ true → mask_at (with_window w s) q ≡ cond (eqb w.index q) (bit_or w.mask (mask_at s q)) (mask_at s q)
unfolding rising with_window mask_at
mask_with lo q w [] e = cases (eqb w.index q) (λ h. rw h (sym (or_zero_r w.mask))) (λ h. rw h)
mask_with lo q w (v ∷ s) e =
    let r = and_snd (leb lo v.index) (rising (v.index + 1) s) e in
    orders (compare w.index v.index)
    (λ o. let l = lt_up w.index v.index o in
    cases (eqb w.index q)
    (λ h. let i = eqb-true w.index q h in
    rw (o, h, ne_eqb v.index q (omega arith), mask_below (v.index + 1) q s (omega arith) r) (sym (or_zero_r w.mask)))
    (λ h. rw (o, h)))
    (λ o. let s' : w.index ≡ v.index = up_lawful.same w.index v.index o in
    cases (eqb v.index q) (λ h. let k : eqb w.index q ≡ true = rw s' h in rw (o, h, k)) (λ h. let k : eqb w.index q ≡ false = rw s' h in rw (o, h, k)))
    (λ o. let l = lt_up v.index w.index (up_lawful.turn w.index v.index o) in
    let rest = mask_with (v.index + 1) q w s r in
    cases (eqb v.index q)
    (λ h. let i = eqb-true v.index q h in rw (o, h, ne_eqb w.index q (omega arith)))
    (λ h. rw (o, h) rest))

holds_with : (lo : ℕ) (w : Window) (s : Pages) (p : ℕ) → rising lo s ≡ true → holds (with_window w s) p ≡ ((eqb w.index (p / 64) && bit w.mask (p % 64)) || holds s p)
unfolding holds
holds_with lo w s p e =
    rw (mask_with lo (p / 64) w s e) (cases (eqb w.index (p / 64)) (λ h. rw h (bit_or_lem w.mask (mask_at s (p / 64)) (p % 64))) (λ h. rw h))

-- ---- the union

rising_union : (s u : Pages) → rising 0 u ≡ true → rising 0 (union s u) ≡ true
unfolding union
rising_union [] u e = e
rising_union (w ∷ s) u e = rising_with 0 w (union s u) (omega arith) (rising_union s u e)

holds_cons : (w : Window) (s : Pages) (p : ℕ) → rising (w.index + 1) s ≡ true → holds (w ∷ s) p ≡ ((eqb w.index (p / 64) && bit w.mask (p % 64)) || holds s p)
unfolding holds mask_at
holds_cons w s p up =
    cases (eqb w.index (p / 64))
    (λ h. let i = eqb-true w.index (p / 64) h in
    rw (h, mask_below (w.index + 1) (p / 64) s (omega arith) up, bit_none (p % 64)) (sym (or-false (bit w.mask (p % 64)))))
    (λ h. rw h)

pub holds_union : (lo : ℕ) (s u : Pages) (p : ℕ) → rising lo s ≡ true → rising 0 u ≡ true → holds (union s u) p ≡ (holds s p || holds u p)
unfolding union rising
holds_union lo [] u p e f = rw (holds_empty p)
holds_union lo (w ∷ s) u p e f =
    let r = and_snd (leb lo w.index) (rising (w.index + 1) s) e in
    holds_with 0 w (union s u) p (rising_union s u f)
    ∙ rw (holds_union (w.index + 1) s u p r f, holds_cons w s p r)
    (sym (or_assoc (eqb w.index (p / 64) && bit w.mask (p % 64)) (holds s p) (holds u p)))

-- ---- joining

or_turn : (a b : Bool) → a || b ≡ b || a
or_turn true true = refl
or_turn true false = refl
or_turn false true = refl
or_turn false false = refl

-- the pages of a joined range are those of both
pub join_pages : (a b f : Part) (p : ℕ) → join a b ≡ done (some f) → holds f.pages p ≡ (holds a.pages p || holds b.pages p)
unfolding join
join_pages a b f p e =
    asked (leb a.start a.end && leb b.start b.end) 2 _ e λ two e1.
    asked (normal_form a.pages && normal_form b.pages) 3 _ e1 λ three e2.
    let x = form_rising a.pages (and_fst (normal_form a.pages) (normal_form b.pages) three) in
    let y = form_rising b.pages (and_snd (normal_form a.pages) (normal_form b.pages) three) in
    by (joined_is (touching a b) e2) x y
  where
    joined_is : (o : Option Part) → joined_part o ≡ done (some f) → o ≡ some f
    joined_is none z = absurd (missing refl (done_same z))
    joined_is (some g) z = asked (leb (length g.pages) 32) 22 _ z λ room z1. done_same z1

    by : touching a b ≡ some f → rising 0 a.pages ≡ true → rising 0 b.pages ≡ true → holds f.pages p ≡ (holds a.pages p || holds b.pages p)
    by z x y =
        cases (same_id a.sid b.sid)
        (λ s. cases (eqb a.end b.start)
        (λ l. let q = option_same (rw (s, l) at z) in ap (λ (g : Part). holds g.pages p) (sym q) ∙ holds_union 0 a.pages b.pages p x y)
        (λ l. cases (eqb b.end a.start)
        (λ r. let q = option_same (rw (s, l, r) at z) in ap (λ (g : Part). holds g.pages p) (sym q) ∙ holds_union 0 b.pages a.pages p y x ∙ or_turn (holds b.pages p) (holds a.pages p))
        (λ r. absurd (missing {o = none} refl (rw (s, l, r) at z)))))
        (λ s. absurd (missing {o = none} refl (rw s at z)))
