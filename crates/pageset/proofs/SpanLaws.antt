-- Windows in order to which one more is pushed at the end, and that more windows need more room. Assumes nothing.
use Rattle.std.proofs.Common.{◌≡◌, ℕ, zero, suc, ◌+◌, ◌^◌, ◌<◌, ◌≤◌, ◌⊎◌, List, [], ◌∷◌, ◌++◌, length, sym, refl, ◌∙◌, inl, inr, arith}
use Rattle.pageset.specs.declared.Window.{Window}
use Rattle.pageset.specs.Sets.{mask_at}
use Rattle.pageset.proofs.FormLaws.{Rises}
use Rattle.pageset.proofs.WindowLaws.{lt_or, eq_or, mask_nil, mask_same, mask_other, mask_below}
use Rattle.pageset.proofs.WalkLaws.{one}

-- ---- one window, or none where its mask is 0

pub one_length : (q m : ℕ) → length (one q m) ≤ 1
unfolding one
one_length q zero = omega arith
one_length q (suc m) = omega arith

rises_from : (lo lo' : ℕ) (ws : List Window) → lo ≤ lo' → Rises lo' ws → Rises lo ws
unfolding Rises
rises_from lo lo' [] h r = tt
rises_from lo lo' (w ∷ ws) h r = (omega (arith, r.0), r.1, r.2, r.3, r.4)

-- one window before a list in order
pub one_rises : (q m lo : ℕ) (ws : List Window) → lo ≤ q → q < 67108864 → m < 2 ^ 64 → Rises (q + 1) ws → Rises lo (one q m ++ ws)
unfolding one Rises
one_rises q zero lo ws h k l r = rises_from lo (q + 1) ws (omega arith) r
one_rises q (suc m) lo ws h k l r = (h, k, omega arith, l, r)

pub one_same : (q m : ℕ) (ws : List Window) → mask_at ws q ≡ 0 → mask_at (one q m ++ ws) q ≡ m
unfolding one
one_same q zero ws h = h
one_same q (suc m) ws h = mask_same (record { index = q; mask = suc m }) ws q refl

pub one_other : (q m : ℕ) (ws : List Window) (p : ℕ) → (q ≡ p → ⊥) → mask_at (one q m ++ ws) p ≡ mask_at ws p
unfolding one
one_other q zero ws p h = refl
one_other q (suc m) ws p h = mask_other (record { index = q; mask = suc m }) ws p h

-- ---- windows in order from lo that end below hi

pub Span : ℕ → ℕ → List Window → Type 0
Span lo hi [] = lo ≤ hi
Span lo hi (w ∷ ws) = (lo ≤ w.index) × (w.index < 67108864) × (0 < w.mask) × (w.mask < 2 ^ 64) × Span (w.index + 1) hi ws

pub span_nil : (lo hi : ℕ) → lo ≤ hi → Span lo hi []
unfolding Span
span_nil lo hi h = h

-- windows in order from hi may follow
pub span_join : (lo hi : ℕ) (xs ys : List Window) → Span lo hi xs → Rises hi ys → Rises lo (xs ++ ys)
unfolding Span Rises
span_join lo hi [] ys h r = rises_from lo hi ys h r
span_join lo hi (w ∷ ws) ys h r = (h.0, h.1, h.2, h.3, span_join (w.index + 1) hi ws ys h.4 r)

pub span_push : (lo hi : ℕ) (xs : List Window) → Span lo hi xs → (q m : ℕ) → hi ≤ q → q < 67108864 → m < 2 ^ 64 → Span lo (q + 1) (xs ++ one q m)
unfolding Span one
span_push lo hi [] h q zero a b c = omega arith
span_push lo hi [] h q (suc m) a b c = (omega arith, b, omega arith, c, omega arith)
span_push lo hi (w ∷ ws) h q m a b c = (h.0, h.1, h.2, h.3, span_push (w.index + 1) hi ws h.4 q m a b c)

pub span_rises : (lo hi : ℕ) (xs : List Window) → Span lo hi xs → Rises lo xs
unfolding Span Rises
span_rises lo hi [] h = tt
span_rises lo hi (w ∷ ws) h = (h.0, h.1, h.2, h.3, span_rises (w.index + 1) hi ws h.4)

span_up : (lo hi : ℕ) (xs : List Window) → Span lo hi xs → lo ≤ hi
unfolding Span
span_up lo hi [] h = h
span_up lo hi (w ∷ ws) h = omega (arith, h.0, span_up (w.index + 1) hi ws h.4)

pub span_past : (lo hi : ℕ) (xs : List Window) → Span lo hi xs → (q : ℕ) → hi ≤ q → mask_at xs q ≡ 0
unfolding Span
span_past lo hi [] h q l = mask_nil q
span_past lo hi (w ∷ ws) h q l = mask_other w ws q (λ e. omega (arith, span_up (w.index + 1) hi ws h.4)) ∙ span_past (w.index + 1) hi ws h.4 q l

-- the mask that was pushed, and the others
pub push_other : (xs : List Window) (q m p : ℕ) → (q ≡ p → ⊥) → mask_at (xs ++ one q m) p ≡ mask_at xs p
unfolding mask_at one
push_other [] q zero p n = refl
push_other [] q (suc m) p n = mask_other (record { index = q; mask = suc m }) [] p n
push_other (w ∷ ws) q m p n = rw (push_other ws q m p n)

pub push_same : (lo hi : ℕ) (xs : List Window) → Span lo hi xs → (q m : ℕ) → hi ≤ q → mask_at (xs ++ one q m) q ≡ m
unfolding Span one
push_same lo hi [] h q zero l = mask_nil q
push_same lo hi [] h q (suc m) l = mask_same (record { index = q; mask = suc m }) [] q refl
push_same lo hi (w ∷ ws) h q m l = mask_other w (ws ++ one q m) q (λ e. omega (arith, span_up (w.index + 1) hi ws h.4)) ∙ push_same (w.index + 1) hi ws h.4 q m l

-- ---- more windows need more room

-- an index that bit a mask in two lists one after the other bit it in one of them
pub either : (xs ys : List Window) (q : ℕ) → 0 < mask_at (xs ++ ys) q → (0 < mask_at xs q) ⊎ (0 < mask_at ys q)
either [] ys q h = inr h
either (w ∷ ws) ys q h = go (eq_or w.index q) (either ws ys q)
  where
    go : (w.index ≡ q) ⊎ (w.index ≡ q → ⊥) → (0 < mask_at (ws ++ ys) q → (0 < mask_at ws q) ⊎ (0 < mask_at ys q)) → (0 < mask_at (w ∷ ws) q) ⊎ (0 < mask_at ys q)
    go (inl e) ih = inl (rw (mask_same w ws q e) (rw (mask_same w (ws ++ ys) q e) at h))
    go (inr n) ih = rw (mask_other w ws q n) (ih (rw (mask_other w (ws ++ ys) q n) at h))

-- a list in order that bit a mask wherever another bit one is at least as long
pub longer : (lo lo' : ℕ) (xs ys : List Window) → Rises lo xs → Rises lo' ys → ((q : ℕ) → 0 < mask_at xs q → 0 < mask_at ys q) → length xs ≤ length ys
unfolding Rises
longer lo lo' [] ys r t h = omega arith
longer lo lo' (w ∷ ws) [] r t h =
    let z : 0 < mask_at [] w.index = h w.index (rw (mask_same w ws w.index refl) r.2) in
    absurd (omega (arith, mask_nil w.index))
longer lo lo' (w ∷ ws) (v ∷ vs) r t h =
    go (eq_or v.index w.index) (longer (w.index + 1) (v.index + 1) ws vs r.4 t.4) (longer lo (v.index + 1) (w ∷ ws) vs r t.4)
  where
    -- at w's own index
    here : 0 < mask_at (v ∷ vs) w.index
    here = h w.index (rw (mask_same w ws w.index refl) r.2)

    above : v.index < w.index ⊎ (w.index ≤ v.index) → (v.index ≡ w.index → ⊥) → v.index < w.index
    above (inl a) n = a
    above (inr a) n =
        let z : mask_at (v ∷ vs) w.index ≡ 0 = mask_below (w.index + 1) (v ∷ vs) w.index (let k : w.index + 1 ≤ v.index = omega arith in (k, t.1, t.2, t.3, t.4)) (omega arith) in
        absurd (omega (arith, here))

    tail : v.index ≡ w.index → (q : ℕ) → 0 < mask_at ws q → 0 < mask_at vs q
    tail e q k = step (eq_or w.index q)
      where
        step : (w.index ≡ q) ⊎ (w.index ≡ q → ⊥) → 0 < mask_at vs q
        step (inl p) = absurd (omega (arith, mask_below (w.index + 1) ws q r.4 (omega arith)))
        step (inr n) = rw (mask_other v vs q (λ z. n (sym e ∙ z))) at (h q (rw (mask_other w ws q n) k))

    rest : v.index < w.index → (q : ℕ) → 0 < mask_at (w ∷ ws) q → 0 < mask_at vs q
    rest l q k = step (eq_or v.index q)
      where
        step : (v.index ≡ q) ⊎ (v.index ≡ q → ⊥) → 0 < mask_at vs q
        step (inl p) = absurd (omega (arith, mask_below w.index (w ∷ ws) q (omega arith, r.1, r.2, r.3, r.4) (omega arith)))
        step (inr n) = rw (mask_other v vs q n) at (h q k)

    go : (v.index ≡ w.index) ⊎ (v.index ≡ w.index → ⊥) → (((q : ℕ) → 0 < mask_at ws q → 0 < mask_at vs q) → length ws ≤ length vs)
        → (((q : ℕ) → 0 < mask_at (w ∷ ws) q → 0 < mask_at vs q) → length (w ∷ ws) ≤ length vs) → length (w ∷ ws) ≤ length (v ∷ vs)
    go (inl e) f g = omega (arith, f (tail e))
    go (inr n) f g = omega (arith, g (rest (above (lt_or v.index w.index) n)))
