-- The bits of a window that stand for the pages of a range, and the windows of a range one after the other. Assumes nothing.
use Rattle.std.proofs.Common.{◌≡◌, ℕ, zero, suc, ◌+◌, ◌-◌, ◌*◌, ◌/◌, ◌%◌, ◌^◌, ◌<◌, ◌≤◌, min, Bool, true, false, cond, not, ◌&&◌, eqb, ltb, leb, ◌⊎◌, List, [], ◌∷◌, ◌++◌, length, replicate, sym, refl, ap, ◌∙◌, ap₂, inl, inr, arith, length-append, pow_pos, pow_mono, le-ltb, lt-ltb, eq-eqb, ne_eqb, le-leb}
use borrow.Author.Tests.{lt-leb}
use lib.Bits.{bit_and, and_lt}
use lib.Pow.{ones_sub-lt}
use Rattle.pageset.specs.declared.Window.{Window}
use Rattle.pageset.specs.declared.PageSet.{PageSet}
use Rattle.pageset.specs.Sets.{bit, mask_at, holds, shown, member, zero_window}
use Rattle.pageset.specs.Windows.{up_to, span_mask, pushed}
use Rattle.pageset.specs.Rules.{within}
use Rattle.pageset.proofs.BitLaws.{bit_ones, bit_and_lem, bit_not, bit_none}
use Rattle.pageset.proofs.FormLaws.{Rises, Tidy, Normal, shown_length, clash}
use Rattle.pageset.proofs.WindowLaws.{lt_or, eq_or, mask_nil, mask_other}
use Rattle.pageset.proofs.WalkLaws.{one, made, made_empty, push_tidy, push_shown}
use Rattle.pageset.proofs.SpanLaws.{one_length, Span, span_nil, span_push, span_rises, span_past, push_other, push_same, longer}

-- ---- one window

pub up_to_is : (n q k : ℕ) → min 64 (n + 1 - q * 64) ≡ k → 2 ^ k - 1 ≡ up_to n q
unfolding up_to
up_to_is n q k e = ap (λ (x : ℕ). 2 ^ x - 1) (sym e)

up_to_lt : (n q : ℕ) → up_to n q < 2 ^ 64
unfolding up_to
up_to_lt n q =
    let l : min 64 (n + 1 - q * 64) ≤ 64 = omega arith in
    omega (arith, pow_mono l, pow_pos (min 64 (n + 1 - q * 64)))

up_to_bit : (n q b : ℕ) → b < 64 → bit (up_to n q) b ≡ leb (q * 64 + b) n
unfolding up_to
up_to_bit n q b h = bit_ones (min 64 (n + 1 - q * 64)) b ∙ go (lt_or n (q * 64 + b))
  where
    go : (n < q * 64 + b) ⊎ (q * 64 + b ≤ n) → ltb b (min 64 (n + 1 - q * 64)) ≡ leb (q * 64 + b) n
    go (inl l) = le-ltb b _ (omega arith) ∙ sym (lt-leb _ _ l)
    go (inr l) = lt-ltb b _ (omega arith) ∙ sym (le-leb _ _ l)

-- ---- the windows of a range

module _ (lo hi : ℕ) where
  swap : (p : ℕ) → 0 < lo → (leb p hi && not (leb p (lo - 1))) ≡ (leb lo p && leb p hi)
  swap p h = go (lt_or p lo) (leb p hi)
    where
      go : (p < lo) ⊎ (lo ≤ p) → (x : Bool) → (x && not (leb p (lo - 1))) ≡ (leb lo p && x)
      go (inl l) true = rw (le-leb p (lo - 1) (omega arith), lt-leb lo p l)
      go (inl l) false = rw (lt-leb lo p l)
      go (inr l) true = rw (lt-leb p (lo - 1) (omega arith), le-leb lo p l)
      go (inr l) false = rw (le-leb lo p l)

  -- the windows from that of lo up to below q
  pub record Ranged (q : ℕ) (out : PageSet) : Type 0 where
    pub tidy : Tidy out
    pub few : out.len + lo / 64 ≤ q
    pub span : Span 0 q (shown out)
    pub held : (p : ℕ) → p / 64 < q → member out p ≡ within lo hi p

  module _ (h : 0 < lo) where
    span_bit : (q k : ℕ) → k < 64 → bit (span_mask lo hi q) k ≡ within lo hi (q * 64 + k)
    unfolding span_mask
    span_bit q k l =
        bit_and_lem (up_to hi q) ((2 ^ 64 - 1) - up_to (lo - 1) q) k
        ∙ ap₂ ◌&&◌ (up_to_bit hi q k l) (bit_not 64 k (up_to (lo - 1) q) l (up_to_lt (lo - 1) q) ∙ ap not (up_to_bit (lo - 1) q k l))
        ∙ swap (q * 64 + k) h

    span_page : (p : ℕ) → bit (span_mask lo hi (p / 64)) (p % 64) ≡ within lo hi p
    span_page p =
        let e : p / 64 * 64 + p % 64 ≡ p = omega arith in
        span_bit (p / 64) (p % 64) (omega arith) ∙ ap (within lo hi) e

    span_lt : (q : ℕ) → span_mask lo hi q < 2 ^ 64
    unfolding span_mask
    span_lt q = and_lt 64 (up_to hi q) ((2 ^ 64 - 1) - up_to (lo - 1) q) (up_to_lt hi q) (ones_sub-lt 64 (up_to (lo - 1) q))

    pub range_start : Ranged (lo / 64) (made 0 (replicate 32 zero_window))
    unfolding holds
    range_start =
        record {
          tidy = made_empty;
          few = omega arith;
          span = span_nil 0 (lo / 64) (omega arith);
          held = λ p l.
              ap (λ (m : ℕ). bit m (p % 64)) (mask_nil (p / 64)) ∙ bit_none (p % 64)
              ∙ sym (ap (λ (b : Bool). b && leb p hi) (lt-leb lo p (let g : p < lo = omega arith in g)));
        }

    -- a turn: window q is pushed
    module _ (q : ℕ) (out : PageSet) (w : Ranged q out) (l : q < 67108864) (f : out.len < 32) where
      abbrev next : PageSet
      next = pushed q (span_mask lo hi q) out

      shows : shown next ≡ shown out ++ one q (span_mask lo hi q)
      shows = push_shown out.len out.windows w.tidy f q (span_mask lo hi q)

      range_holds : (p : ℕ) → p / 64 < q + 1 → member next p ≡ within lo hi p
      unfolding holds
      range_holds p g = go (eq_or q (p / 64))
        where
          go : (q ≡ p / 64) ⊎ (q ≡ p / 64 → ⊥) → bit (mask_at (shown next) (p / 64)) (p % 64) ≡ within lo hi p
          go (inl z) =
              let k : q * 64 + p % 64 ≡ p = omega arith in
              ap (λ (x : List Window). bit (mask_at x (p / 64)) (p % 64)) shows
              ∙ ap (λ (x : ℕ). bit (mask_at (shown out ++ one q (span_mask lo hi q)) x) (p % 64)) (sym z)
              ∙ ap (λ (m : ℕ). bit m (p % 64)) (push_same 0 q (shown out) w.span q (span_mask lo hi q) (omega arith))
              ∙ span_bit q (p % 64) (omega arith)
              ∙ ap (within lo hi) k
          go (inr z) =
              ap (λ (x : List Window). bit (mask_at x (p / 64)) (p % 64)) shows
              ∙ ap (λ (m : ℕ). bit m (p % 64)) (push_other (shown out) q (span_mask lo hi q) (p / 64) z)
              ∙ w.held p (omega arith)

      ranged_more : Ranged (q + 1) next
      ranged_more =
          let t : Tidy next = push_tidy out.len out.windows w.tidy f q (span_mask lo hi q) in
          record {
            tidy = t;
            few = omega (arith, shown_length next t, ap length shows, length-append (shown out) (one q (span_mask lo hi q)), one_length q (span_mask lo hi q), shown_length out w.tidy, w.few);
            span = rw shows (span_push 0 q (shown out) w.span q (span_mask lo hi q) (omega arith) l (span_lt q));
            held = range_holds;
          }

      pub range_push : (m : ℕ) → m ≡ span_mask lo hi q → Ranged (q + 1) (pushed q m out)
      range_push m em = rw em ranged_more

    and-false : (x : Bool) → (x && false) ≡ false
    and-false true = refl
    and-false false = refl

    pub range_members : (q : ℕ) (out : PageSet) → Ranged q out → hi / 64 < q → (p : ℕ) → member out p ≡ within lo hi p
    unfolding holds
    range_members q out w g p = go (lt_or (p / 64) q)
      where
        go : (p / 64 < q) ⊎ (q ≤ p / 64) → bit (mask_at (shown out) (p / 64)) (p % 64) ≡ within lo hi p
        go (inl l) = w.held p l
        go (inr l) =
            let k : hi < p = omega arith in
            ap (λ (m : ℕ). bit m (p % 64)) (span_past 0 q (shown out) w.span (p / 64) l) ∙ bit_none (p % 64)
            ∙ sym (ap (λ (b : Bool). leb lo p && b) (lt-leb p hi k) ∙ and-false (leb lo p))

    pub range_normal : (q : ℕ) (out : PageSet) → Ranged q out → hi / 64 < q → Normal out
    range_normal q out w g =
        record {
          tidy = w.tidy;
          rising = span_rises 0 q (shown out) w.span;
          no_zero = range_members q out w g 0 ∙ ap (λ (b : Bool). b && leb 0 hi) (lt-leb lo 0 h);
        }

-- the bits of window q that stand for pages from lo to hi, or those that do not
abbrev pub side_mask : Bool → ℕ → ℕ → ℕ → ℕ
side_mask inside lo hi q = cond inside (span_mask lo hi q) ((2 ^ 64 - 1) - span_mask lo hi q)

pub side_page : (inside : Bool) (lo hi : ℕ) → 0 < lo → (p : ℕ) → bit (side_mask inside lo hi (p / 64)) (p % 64) ≡ cond inside (within lo hi p) (not (within lo hi p))
side_page true lo hi h p = span_page lo hi h p
side_page false lo hi h p = bit_not 64 (p % 64) (span_mask lo hi (p / 64)) (omega arith) (span_lt lo hi h (p / 64)) ∙ ap not (span_page lo hi h p)

pub side_picked : (inside : Bool) (m x y : ℕ) → cond inside (bit_and m x) (bit_and m y) ≡ bit_and m (cond inside x y)
side_picked true m x y = refl
side_picked false m x y = refl

-- ---- n windows one after the other, none of them empty

row : ℕ → ℕ → List Window
row q zero = []
row q (suc n) = record { index = q; mask = 1 } ∷ row (q + 1) n

row_length : (q n : ℕ) → length (row q n) ≡ n
unfolding row
row_length q zero = refl
row_length q (suc n) = ap suc (row_length (q + 1) n)

row_rises : (q n : ℕ) → q + n ≤ 67108864 → Rises q (row q n)
unfolding row Rises
row_rises q zero h = tt
row_rises q (suc n) h = (omega arith, omega arith, omega arith, omega arith, row_rises (q + 1) n (omega arith))

row_has : (q n p : ℕ) → 0 < mask_at (row q n) p → (q ≤ p) × (p < q + n)
unfolding row
row_has q zero p h = absurd (omega (arith, mask_nil p))
row_has q (suc n) p h = go (eq_or q p) (row_has (q + 1) n p)
  where
    go : (q ≡ p) ⊎ (q ≡ p → ⊥) → (0 < mask_at (row (q + 1) n) p → (q + 1 ≤ p) × (p < q + 1 + n)) → (q ≤ p) × (p < q + suc n)
    go (inl e) ih = (omega arith, omega arith)
    go (inr e) ih = let k = ih (rw (mask_other (record { index = q; mask = 1 }) (row (q + 1) n) p e) at h) in (omega arith, omega arith)

module _ (lo hi : ℕ) (s : PageSet) (t : Normal s) (h : (p : ℕ) → member s p ≡ (leb lo p && leb p hi)) where
  filled : (q : ℕ) → lo / 64 ≤ q → q ≤ hi / 64 → lo ≤ hi → 0 < mask_at (shown s) q
  unfolding holds
  filled q a b c = go (lt_or lo (q * 64)) (lt_or 0 (mask_at (shown s) q))
    where
      at : (p : ℕ) → p / 64 ≡ q → lo ≤ p → p ≤ hi → (0 < mask_at (shown s) q) ⊎ (mask_at (shown s) q ≤ 0) → 0 < mask_at (shown s) q
      at p e l m (inl z) = z
      at p e l m (inr z) =
          let y : mask_at (shown s) q ≡ 0 = omega arith in
          (clash _ (h p ∙ ap₂ ◌&&◌ (le-leb lo p l) (le-leb p hi m))
          (ap (λ (x : ℕ). bit (mask_at (shown s) x) (p % 64)) e ∙ ap (λ (x : ℕ). bit x (p % 64)) y ∙ bit_none (p % 64)))

      go : (lo < q * 64) ⊎ (q * 64 ≤ lo) → (0 < mask_at (shown s) q) ⊎ (mask_at (shown s) q ≤ 0) → 0 < mask_at (shown s) q
      go (inl z) w = at (q * 64) (omega arith) (omega arith) (omega arith) w
      go (inr z) w = at lo (omega arith) (omega arith) c w

  pub too_long : lo ≤ hi → hi < 2 ^ 32 → 31 < hi / 64 - lo / 64 → ⊥
  too_long a b c =
      let n = hi / 64 - lo / 64 + 1 in
      let l = longer (lo / 64) 0 (row (lo / 64) (hi / 64 - lo / 64 + 1)) (shown s) (row_rises (lo / 64) (hi / 64 - lo / 64 + 1) (omega arith)) t.rising
      (λ q g. let k = row_has (lo / 64) (hi / 64 - lo / 64 + 1) q g in filled q k.0 (omega (arith, k.1)) a) in
      omega (arith, l, row_length (lo / 64) (hi / 64 - lo / 64 + 1), shown_length s t.tidy, t.tidy.short)

-- ---- one page

pub only_page : (p q : ℕ) → (leb p q && leb q p) ≡ eqb q p
only_page p q = go (lt_or p q) (lt_or q p)
  where
    go : (p < q) ⊎ (q ≤ p) → (q < p) ⊎ (p ≤ q) → (leb p q && leb q p) ≡ eqb q p
    go (inl l) y = rw (le-leb p q (omega arith), lt-leb q p l, ne_eqb q p (λ e. omega arith))
    go (inr l) (inl m) = rw (lt-leb p q m, ne_eqb q p (λ e. omega arith))
    go (inr l) (inr m) = rw (le-leb p q m, le-leb q p l, eq-eqb q p (omega arith))
