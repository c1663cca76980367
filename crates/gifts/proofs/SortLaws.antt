-- A window sorted: if the notes know it, its pages up to the count without those that are held; else all of them are to be asked for. A window's index is that of no other window of its set,
-- so that noting the windows one after another notes the set, and what is told of a window is what was held before the set was met.
use Rattle.std.specs.Prelude.{◌≡◌, ℕ, zero, suc, ◌+◌, ◌-◌, ◌*◌, ◌/◌, ◌%◌, ◌^◌, ◌<◌, ◌≤◌, Bool, true, false, not, ◌&&◌, ◌||◌, eqb, leb, List, [], ◌∷◌, length, get_or, take, set, Option, Some, None}
use mathlib.Core.Path.{refl, sym, ap, ap₂, ◌∙◌, subst}
use mathlib.Core.Bool.{or-false}
use native.Mathlib.Omega.{arith}
use native.Mathlib.Decide.{ℕ_discrete}
use borrow.Author.Tests.{eq-eqb, eqb-true, ne_eqb}
use lib.Bits.{bit_and, and_le_l}
use lib.Dec.{lit<}
use lib.ListN.{length-set}
use lib.Seq.{get_or-set_same, get_or-set_other, take-length}
use Rattle.pageset.specs.declared.Window.{Window}
use Rattle.pageset.specs.Sets.{bit, mask_at, holds, rising, zero_window}
use Rattle.pageset.proofs.BitLaws.{bit_and_lem, bit_not, bit_none}
use Rattle.rules.specs.Records.{Pages}
use Rattle.rules.specs.Pages.{up_to}
use Rattle.rules.proofs.TableLaws.{cases, and_snd}
use Rattle.rules.proofs.PageLaws.{bit_up_to, holds_empty}
use Rattle.masks.proofs.GivenLaws.{holds_at_lem}
use Rattle.notes.specs.declared.Notes.{Notes}
use Rattle.notes.specs.Known.{Of, Known, and_held, AsNoted}
use Rattle.notes.proofs.NoteLaws.{known_same}
use Rattle.gifts.specs.Held.{free, Small, SortedAt, AsSorted}
use Rattle.gifts.proofs.HeldLaws.{in_order_lem}

-- ---- a window of a set that rises

-- its mask is that at its index
own_mask : (lo : ℕ) (ws : Pages) (i : ℕ) → rising lo ws ≡ true → i < length ws → mask_at ws (get_or ws i zero_window).index ≡ (get_or ws i zero_window).mask
unfolding rising mask_at
own_mask lo [] i e h = absurd (omega arith)
own_mask lo (w ∷ ws) zero e h = rw (eq-eqb w.index w.index refl)
own_mask lo (w ∷ ws) (suc i) e h =
    rw (ne_eqb w.index (get_or ws i zero_window).index (λ z. omega (arith, in_order_lem lo (w ∷ ws) 0 (suc i) e (omega arith) h)))
    (own_mask (w.index + 1) ws i (and_snd (leb lo w.index) (rising (w.index + 1) ws) e) (omega arith))

-- the windows before it have no page of it
not_before : (lo : ℕ) (ws : Pages) (i : ℕ) → rising lo ws ≡ true → i < length ws → mask_at (take i ws) (get_or ws i zero_window).index ≡ 0
unfolding rising mask_at
not_before lo [] i e h = absurd (omega arith)
not_before lo (w ∷ ws) zero e h = refl
not_before lo (w ∷ ws) (suc i) e h =
    rw (ne_eqb w.index (get_or ws i zero_window).index (λ z. omega (arith, in_order_lem lo (w ∷ ws) 0 (suc i) e (omega arith) h)))
    (not_before (w.index + 1) ws i (and_snd (leb lo w.index) (rising (w.index + 1) ws) e) (omega arith))

-- the pages of one window more
one_more : (lo : ℕ) (ws : Pages) (i p : ℕ) → rising lo ws ≡ true → i < length ws
    → holds (take i ws) p || (eqb (get_or ws i zero_window).index (p / 64) && bit (get_or ws i zero_window).mask (p % 64)) ≡ holds (take (suc i) ws) p
unfolding rising mask_at holds
one_more lo [] i p e h = absurd (omega arith)
one_more lo (w ∷ ws) zero p e h = cases (eqb w.index (p / 64)) (λ z. rw (z, bit_none (p % 64))) (λ z. rw (z, bit_none (p % 64)))
one_more lo (w ∷ ws) (suc i) p e h =
    cases (eqb w.index (p / 64))
    (λ z. let y = eqb-true w.index (p / 64) z in
    rw (z, ne_eqb (get_or ws i zero_window).index (p / 64) (λ x. omega (arith, in_order_lem lo (w ∷ ws) 0 (suc i) e (omega arith) h))) (or-false (bit w.mask (p % 64))))
    (λ z. rw z (one_more (w.index + 1) ws i p (and_snd (leb lo w.index) (rising (w.index + 1) ws) e) (omega arith)))

-- ---- a window noted

module _ (ws : Pages) (up : rising 0 ws ≡ true) (i : ℕ) (h : i < length ws) (held : ℕ → Bool) where
  abbrev w : Window
  w = get_or ws i zero_window

  abbrev met : ℕ → ℕ → Bool
  met j p = held p || holds (take j ws) p

  or_assoc : (a b c : Bool) → (a || b) || c ≡ a || (b || c)
  or_assoc true b c = refl
  or_assoc false b c = refl

  pub noted_next : (n : Notes) → Known (and_held (met i) w.index w.mask) n → Known (met (i + 1)) n
  noted_next n k =
      let z : i + 1 ≡ suc i = omega arith in
      known_same (and_held (met i) w.index w.mask) (met (i + 1)) n
      (λ p. or_assoc (held p) (holds (take i ws) p) (eqb w.index (p / 64) && bit w.mask (p % 64)) ∙ ap (λ (b : Bool). held p || b) (one_more 0 ws i p up h ∙ ap (λ (n : ℕ). holds (take n ws) p) (sym z)))
      k

  -- what is told of the window is what was held before the set
  pub told_before : (mask : ℕ) → Of (met i) w.index mask → Of held w.index mask
  told_before mask o b l =
      o b l
      ∙ ap (λ (x : Bool). held (w.index * 64 + b) || x) (holds_at_lem (take i ws) w.index b l ∙ ap (λ (m : ℕ). bit m b) (not_before 0 ws i up h) ∙ bit_none b)
      ∙ or-false (held (w.index * 64 + b))

  -- ---- and sorted

  module _ (count : ℕ) where
    abbrev pages : ℕ
    pages = up_to count w.index w.mask

    pages_bit : (b : ℕ) → b < 64 → bit pages b ≡ holds ws (w.index * 64 + b) && leb (w.index * 64 + b) count
    pages_bit b l =
        bit_up_to count w.index w.mask b l
        ∙ ap (λ (x : Bool). x && leb (w.index * 64 + b) count) (ap (λ (m : ℕ). bit m b) (sym (own_mask 0 ws i up h)) ∙ sym (holds_at_lem ws w.index b l))

    pub sort_known : (told : ℕ) → told < 2 ^ 64 → Of held w.index told → (b : ℕ) → b < 64
        → bit (bit_and pages (18446744073709551615 - told)) b || (bit 0 b && not (held (w.index * 64 + b))) ≡ free held count ws (w.index * 64 + b)
    sort_known told s o b l =
        let p = w.index * 64 + b in
        ap₂ (λ (x y : Bool). x || (y && not (held p))) (bit_and_lem pages (18446744073709551615 - told) b ∙ ap₂ (λ (x y : Bool). x && y) (pages_bit b l) (bit_not 64 b told l s ∙ ap not (o b l))) (bit_none b)
        ∙ or-false ((holds ws p && leb p count) && not (held p))

    pub sort_asked : (b : ℕ) → b < 64 → bit 0 b || (bit pages b && not (held (w.index * 64 + b))) ≡ free held count ws (w.index * 64 + b)
    sort_asked b l = ap₂ (λ (x y : Bool). x || (y && not (held (w.index * 64 + b)))) (bit_none b) (pages_bit b l)

    -- the windows sorted before stay so
    pub sorted_next : (left ask : List ℕ) (x y : ℕ) → i < length left → i < length ask → ((j : ℕ) → j < i → SortedAt held count ws left ask j)
        → ((b : ℕ) → b < 64 → bit x b || (bit y b && not (held (w.index * 64 + b))) ≡ free held count ws (w.index * 64 + b))
        → (j : ℕ) → j < i + 1 → SortedAt held count ws (set left i x) (set ask i y) j
    sorted_next left ask x y hl ha was now j g = go (ℕ_discrete j i)
      where
        go : Dec (j ≡ i) → SortedAt held count ws (set left i x) (set ask i y) j
        go (yes z) = subst (λ (k : ℕ). SortedAt held count ws (set left i x) (set ask i y) k) (sym z) (λ b l. ap₂ (λ (m k : ℕ). bit m b || (bit k b && not (held (w.index * 64 + b)))) (get_or-set_same left i x 0 hl) (get_or-set_same ask i y 0 ha) ∙ now b l)
        go (no n) = λ b l. ap₂ (λ (m k : ℕ). bit m b || (bit k b && not (held ((get_or ws j zero_window).index * 64 + b)))) (get_or-set_other left i j x 0 n) (get_or-set_other ask i j y 0 n) ∙ was j (omega arith) b l

-- masks of 64 bits, one more set
pub small_next : (i : ℕ) (ms : List ℕ) (x : ℕ) → x < 2 ^ 64 → i < length ms → ((j : ℕ) → j < i → get_or ms j 0 < 2 ^ 64) → (j : ℕ) → j < i + 1 → get_or (set ms i x) j 0 < 2 ^ 64
small_next i ms x s h was j g = go (ℕ_discrete j i)
  where
    go : Dec (j ≡ i) → get_or (set ms i x) j 0 < 2 ^ 64
    go (yes z) = let e = ap (λ (k : ℕ). get_or (set ms i x) k 0) z ∙ get_or-set_same ms i x 0 h in omega arith
    go (no n) = let e = get_or-set_other ms i j x 0 n in omega (arith, was j (omega arith))

-- ---- the loop

-- i windows are sorted, and noted
pub record Sorting (ws : Pages) (count : ℕ) (n₀ n : Notes) (left ask : List ℕ) (i : ℕ) : Type 0 where
  pub places : (length left ≡ 32) × (length ask ≡ 32)
  pub sorted : (held : ℕ → Bool) → Known held n₀ → ((j : ℕ) → j < i → SortedAt held count ws left ask j) × Known (λ p. held p || holds (take i ws) p) n
  pub small : ((j : ℕ) → j < i → get_or left j 0 < 2 ^ 64) × ((j : ℕ) → j < i → get_or ask j 0 < 2 ^ 64)

module _ (ws : Pages) (count : ℕ) (n₀ : Notes) where
  pub sorting_start : (left ask : List ℕ) → (length left ≡ 32) × (length ask ≡ 32) → Sorting ws count n₀ n₀ left ask 0
  sorting_start left ask m = record {
    places = m;
    sorted = λ held k. (λ j h. absurd (omega arith), known_same held (λ p. held p || holds (take 0 ws) p) n₀ (λ p. sym (ap (λ (b : Bool). held p || b) (holds_empty p) ∙ or-false (held p))) k);
    small = (λ j h. absurd (omega arith), λ j h. absurd (omega arith));
  }

  module _ (n : Notes) (left ask : List ℕ) (i : ℕ) (s : Sorting ws count n₀ n left ask i) where
    pub sorting_end : i ≡ length ws → AsSorted ws count n₀ n left ask × (Small ws left × Small ws ask)
    sorting_end e = (
      λ held k. (λ j h. (s.sorted held k).0 j (omega arith), known_same (λ p. held p || holds (take i ws) p) (λ p. held p || holds ws p) n (λ p. ap (λ (l : Pages). held p || holds l p) (ap (λ (m : ℕ). take m ws) e ∙ take-length ws)) (s.sorted held k).1),
      (λ j h. s.small.0 j (omega arith), λ j h. s.small.1 j (omega arith)),
    )

    -- the next window: its index x, its mask y, its pages v up to the count, and what the notes tell of it
    module _ (up : rising 0 ws ≡ true) (h : i < length ws) (few : length ws ≤ 32) (x y v : ℕ) (e : record { index = x; mask = y } ≡ get_or ws i zero_window) (q : v ≡ up_to count x y) (vs : v < 2 ^ 64) (n' : Notes) where
      abbrev here : Window
      here = get_or ws i zero_window

      v_is : v ≡ up_to count here.index here.mask
      v_is = q ∙ ap (λ (u : Window). up_to count u.index u.mask) e

      module _ (r : Option ℕ) (noted : AsNoted x y n n' r) where
        noted_is : AsNoted here.index here.mask n n' r
        noted_is = subst (λ (u : Window). AsNoted u.index u.mask n n' r) e noted

        then : (held : ℕ → Bool) → Known held n₀ → Known (λ p. held p || holds (take (i + 1) ws) p) n'
        then held k = noted_next ws up i h held n' (noted_is (λ p. held p || holds (take i ws) p) (s.sorted held k).1).1

      pub sorting_known : (told : ℕ) → told < 2 ^ 64 → AsNoted x y n n' (Some told)
          → Sorting ws count n₀ n' (set left i (bit_and v (18446744073709551615 - told))) (set ask i 0) (i + 1)
      sorting_known told m noted = record {
        places = (length-set left i (bit_and v (18446744073709551615 - told)) ∙ s.places.0, length-set ask i 0 ∙ s.places.1);
        sorted = λ held k. (
          sorted_next ws up i h held count left ask (bit_and v (18446744073709551615 - told)) 0 (omega (arith, s.places.0)) (omega (arith, s.places.1)) (s.sorted held k).0
              (λ b d. ap (λ (z : ℕ). bit (bit_and z (18446744073709551615 - told)) b || (bit 0 b && not (held (here.index * 64 + b)))) v_is ∙ sort_known ws up i h held count told m (told_before ws up i h held told (noted_is (Some told) noted (λ p. held p || holds (take i ws) p) (s.sorted held k).1).0) b d),
          then (Some told) noted held k,
        );
        small = (
          small_next i left (bit_and v (18446744073709551615 - told)) (omega (arith, and_le_l v (18446744073709551615 - told))) (omega (arith, s.places.0)) s.small.0,
          small_next i ask 0 (lit< tt) (omega (arith, s.places.1)) s.small.1,
        );
      }

      pub sorting_asked : AsNoted x y n n' None → Sorting ws count n₀ n' (set left i 0) (set ask i v) (i + 1)
      sorting_asked noted = record {
        places = (length-set left i 0 ∙ s.places.0, length-set ask i v ∙ s.places.1);
        sorted = λ held k. (
          sorted_next ws up i h held count left ask 0 v (omega (arith, s.places.0)) (omega (arith, s.places.1)) (s.sorted held k).0
              (λ b d. ap (λ (z : ℕ). bit 0 b || (bit z b && not (held (here.index * 64 + b)))) v_is ∙ sort_asked ws up i h held count b d),
          then None noted held k,
        );
        small = (small_next i left 0 (lit< tt) (omega (arith, s.places.0)) s.small.0, small_next i ask v vs (omega (arith, s.places.1)) s.small.1);
      }
