-- Lists of windows: the mask at an index, what the order of a list tells of it, and that a list in order is known by its masks. Assumes nothing.
use Rattle.std.proofs.Common.{◌≡◌, ℕ, ◌+◌, ◌^◌, ◌<◌, ◌≤◌, Bool, true, false, cond, eqb, ◌⊎◌, List, [], ◌∷◌, sym, refl, ◌∙◌, ap₂, inl, inr, arith, eq-eqb, ne_eqb}
use native.Mathlib.Decide.{dec_lt, ℕ_discrete}
use Rattle.pageset.specs.declared.Window.{Window}
use Rattle.pageset.specs.Sets.{mask_at}
use Rattle.pageset.proofs.FormLaws.{Rises}

-- ---- two numbers compared

pub eq_or : (a b : ℕ) → (a ≡ b) ⊎ (a ≡ b → ⊥)
eq_or a b = elim (ℕ_discrete a b) [ yes p ↦ inl p | no p ↦ inr p ]

pub lt_or : (a b : ℕ) → (a < b) ⊎ (b ≤ a)
lt_or a b = elim (dec_lt a b) [ yes p ↦ inl p | no p ↦ inr (omega arith) ]

-- ---- the mask at an index

pub mask_nil : (q : ℕ) → mask_at [] q ≡ 0
unfolding mask_at
mask_nil q = refl

pub mask_same : (w : Window) (ws : List Window) (q : ℕ) → w.index ≡ q → mask_at (w ∷ ws) q ≡ w.mask
unfolding mask_at
mask_same w ws q e = rw (eq-eqb _ _ e)

pub mask_other : (w : Window) (ws : List Window) (q : ℕ) → (w.index ≡ q → ⊥) → mask_at (w ∷ ws) q ≡ mask_at ws q
unfolding mask_at
mask_other w ws q e = rw (ne_eqb _ _ e)

-- a list in order has nothing below its bound
pub mask_below : (lo : ℕ) (ws : List Window) (q : ℕ) → Rises lo ws → q < lo → mask_at ws q ≡ 0
unfolding Rises
mask_below lo [] q r h = mask_nil q
mask_below lo (w ∷ ws) q r h = mask_other w ws q (λ e. omega (arith, r.0)) ∙ mask_below (w.index + 1) ws q r.4 (omega (arith, r.0))

-- each mask is of 64 bits
pub mask_lt : (lo : ℕ) (ws : List Window) (q : ℕ) → Rises lo ws → mask_at ws q < 2 ^ 64
unfolding Rises mask_at
mask_lt lo [] q r = omega arith
mask_lt lo (w ∷ ws) q r = go (eqb w.index q) (mask_lt (w.index + 1) ws q r.4)
  where
    go : (b : Bool) → mask_at ws q < 2 ^ 64 → cond b w.mask (mask_at ws q) < 2 ^ 64
    go true h = r.3
    go false h = h

-- ---- a list in order is known by its masks

module _ (w v : Window) (ws vs : List Window) (lo lo' : ℕ) (r : Rises lo (w ∷ ws)) (t : Rises lo' (v ∷ vs)) (h : (q : ℕ) → mask_at (w ∷ ws) q ≡ mask_at (v ∷ vs) q) where
  heads : w.index ≡ v.index
  unfolding Rises
  heads = go (lt_or w.index v.index) (lt_or v.index w.index)
    where
      go : (w.index < v.index) ⊎ (v.index ≤ w.index) → (v.index < w.index) ⊎ (w.index ≤ v.index) → w.index ≡ v.index
      go (inl a) b =
          let z : w.mask ≡ 0 = sym (mask_same w ws w.index refl) ∙ h w.index ∙ mask_below v.index (v ∷ vs) w.index (omega arith, t.1, t.2, t.3, t.4) a in
          absurd (omega (arith, r.2))
      go (inr a) (inl b) =
          let z : v.mask ≡ 0 = sym (mask_same v vs v.index refl) ∙ sym (h v.index) ∙ mask_below w.index (w ∷ ws) v.index (omega arith, r.1, r.2, r.3, r.4) b in
          absurd (omega (arith, t.2))
      go (inr a) (inr b) = omega arith

  masks : w.mask ≡ v.mask
  masks = sym (mask_same w ws v.index heads) ∙ h v.index ∙ mask_same v vs v.index refl

  tails : (q : ℕ) → mask_at ws q ≡ mask_at vs q
  unfolding Rises
  tails q = go (eq_or v.index q)
    where
      go : (v.index ≡ q) ⊎ (v.index ≡ q → ⊥) → mask_at ws q ≡ mask_at vs q
      go (inl e) = mask_below (w.index + 1) ws q r.4 (omega (arith, heads)) ∙ sym (mask_below (v.index + 1) vs q t.4 (omega arith))
      go (inr n) = sym (mask_other w ws q (λ e. n (sym heads ∙ e))) ∙ h q ∙ mask_other v vs q n

  same_head : w ≡ v
  same_head = λ i. record { index = heads i; mask = masks i }

pub known : (lo lo' : ℕ) (a b : List Window) → Rises lo a → Rises lo' b → ((q : ℕ) → mask_at a q ≡ mask_at b q) → a ≡ b
unfolding Rises
known lo lo' [] [] r t h = refl
known lo lo' [] (v ∷ vs) r t h =
    let z : 0 ≡ v.mask = sym (mask_nil v.index) ∙ h v.index ∙ mask_same v vs v.index refl in absurd (omega (arith, t.2))
known lo lo' (w ∷ ws) [] r t h =
    let z : 0 ≡ w.mask = sym (mask_nil w.index) ∙ sym (h w.index) ∙ mask_same w ws w.index refl in absurd (omega (arith, r.2))
known lo lo' (w ∷ ws) (v ∷ vs) r t h =
    ap₂ ◌∷◌ (same_head w v ws vs lo lo' r t h) (known (w.index + 1) (v.index + 1) ws vs r.4 t.4 (tails w v ws vs lo lo' r t h))
