-- Two sets walked together, the lower index first, into a third whose mask at each index is f of theirs. Up to a bound the third set has all its
-- masks; from the bound on, what is left of the two is all that they have there. Assumes nothing.
use Rattle.std.proofs.Common.{◌≡◌, ℕ, ◌+◌, ◌^◌, ◌<◌, ◌≤◌, min, Bool, true, false, cond, eqb, ◌⊎◌, List, [], ◌∷◌, ◌++◌, length, take, drop, replicate, sym, refl, ap, ◌∙◌, subst, ap₂, inl, inr, arith, length-append, length-drop, drop-drop, eq-eqb, ne_eqb}
use Rattle.pageset.specs.declared.Window.{Window}
use Rattle.pageset.specs.declared.PageSet.{PageSet}
use Rattle.pageset.specs.Sets.{mask_at, shown, zero_window}
use Rattle.pageset.specs.declared.walk.Turn.{Turn}
use Rattle.pageset.specs.Windows.{mask_if, turn_of, pushed}
use Rattle.pageset.proofs.FormLaws.{Rises, Tidy, Normal, shown_length}
use Rattle.pageset.proofs.WindowLaws.{lt_or, eq_or, mask_nil, mask_same, mask_other, mask_below}
use Rattle.pageset.proofs.WalkLaws.{one, made, step, made_empty, push_tidy, push_shown, head_of, head_cons, room, front, done, rises_at}
use Rattle.pageset.proofs.SpanLaws.{Span, span_nil, span_join, span_push, span_rises, span_past, push_other, push_same, either, longer}

-- ---- one list's part in a turn

-- one window goes if the next one has index q
abbrev taken : Window → ℕ → ℕ
taken x q = cond (eqb x.index q) 1 0

-- at q, which is not above the next index, the list l has the next window's mask or none, and what is left stands above q
pub record Part (q : ℕ) (l : List Window) : Type 0 where
  pub here : mask_at l q ≡ mask_if (head_of l) q
  pub left : Rises (q + 1) (drop (taken (head_of l) q) l)
  pub later : (p : ℕ) → q < p → mask_at (drop (taken (head_of l) q) l) p ≡ mask_at l p
  pub small : mask_if (head_of l) q < 2 ^ 64
  pub there : taken (head_of l) q ≤ length l

rises_up : (lo q : ℕ) (l : List Window) → Rises lo l → q ≤ (head_of l).index → Rises q l
unfolding Rises head_of
rises_up lo q [] r h = tt
rises_up lo q (w ∷ ws) r h = (h, r.1, r.2, r.3, r.4)

turn : (lo q : ℕ) (l : List Window) → Rises lo l → q ≤ (head_of l).index → q < 67108864 → Part q l
unfolding head_of Rises
turn lo q [] r h k =
    let e : eqb 67108864 q ≡ false = ne_eqb 67108864 q (λ e. omega arith) in
    record {
      here = mask_nil q ∙ sym (ap (λ (b : Bool). cond b 0 0) e);
      left = rw e (rises_up lo (q + 1) [] r (omega arith));
      later = λ p g. rw e;
      small = rw e (omega arith);
      there = rw e (omega arith);
    }
turn lo q (w ∷ ws) r h k = go (eq_or w.index q)
  where
    go : (w.index ≡ q) ⊎ (w.index ≡ q → ⊥) → Part q (w ∷ ws)
    go (inl z) =
        let e : eqb w.index q ≡ true = eq-eqb w.index q z in
        record {
          here = mask_same w ws q z ∙ sym (ap (λ (b : Bool). cond b w.mask 0) e);
          left = rw e (subst (λ (n : ℕ). Rises (n + 1) ws) z r.4);
          later = λ p g. rw e (sym (mask_other w ws p (λ y. omega arith)));
          small = rw e r.3;
          there = rw e (omega arith);
        }
    go (inr n) =
        let e : eqb w.index q ≡ false = ne_eqb w.index q n in
        let l : q + 1 ≤ w.index = omega arith in
        record {
          here = mask_below (q + 1) (w ∷ ws) q (rises_up lo (q + 1) (w ∷ ws) r l) (omega arith) ∙ sym (ap (λ (b : Bool). cond b w.mask 0) e);
          left = rw e (rises_up lo (q + 1) (w ∷ ws) r l);
          later = λ p g. rw e;
          small = rw e (omega arith);
          there = rw e (omega arith);
        }

step_most : (m : ℕ) → step m ≤ 1
step_most m = go (eqb m 0)
  where
    go : (b : Bool) → cond b 0 1 ≤ 1
    go true = omega arith
    go false = omega arith

-- the next window of a set that has one
pub real : (s : PageSet) → Normal s → (i : ℕ) → i < s.len → (x : Window) → x ≡ head_of (drop i (shown s)) → x.index < 67108864
real s t i h x e = rw (e, front s (room s t.tidy) i h, head_cons) (rises_at s t i h)

head_low : (lo : ℕ) (l : List Window) → Rises lo l → lo ≤ 67108864 → lo ≤ (head_of l).index
unfolding Rises head_of
head_low lo [] r h = h
head_low lo (w ∷ ws) r h = r.0

-- ---- the walk

module _ (f : ℕ → ℕ → ℕ) where
  pub record Merging (a b : PageSet) (i k : ℕ) (out : PageSet) : Type 0 where
    pub a_most : i ≤ a.len
    pub b_most : k ≤ b.len
    pub tidy : Tidy out
    pub bound : ℕ
    pub top : bound ≤ 67108864
    pub span : Span 0 bound (shown out)
    pub a_left : Rises bound (drop i (shown a))
    pub b_left : Rises bound (drop k (shown b))
    pub a_same : (q : ℕ) → bound ≤ q → mask_at (drop i (shown a)) q ≡ mask_at (shown a) q
    pub b_same : (q : ℕ) → bound ≤ q → mask_at (drop k (shown b)) q ≡ mask_at (shown b) q
    pub merged : (q : ℕ) → q < bound → mask_at (shown out) q ≡ f (mask_at (shown a) q) (mask_at (shown b) q)

  pub merge_start : (a b : PageSet) → Normal a → Normal b → Merging a b 0 0 (made 0 (replicate 32 zero_window))
  merge_start a b ta tb =
      record {
        a_most = omega arith;
        b_most = omega arith;
        tidy = made_empty;
        bound = 0;
        top = omega arith;
        span = span_nil 0 0 (omega arith);
        a_left = ta.rising;
        b_left = tb.rising;
        a_same = λ q h. refl;
        b_same = λ q h. refl;
        merged = λ q h. absurd (omega arith);
      }

  module _ (none_of_none : f 0 0 ≡ 0) (fits : (x y : ℕ) → x < 2 ^ 64 → y < 2 ^ 64 → f x y < 2 ^ 64) (a b : PageSet) (ta : Normal a) (tb : Normal b) (i k n : ℕ) (ws : List Window) (w : Merging a b i k (made n ws)) where
    abbrev la : List Window
    la = drop i (shown a)

    abbrev lb : List Window
    lb = drop k (shown b)

    -- one turn, at the lower of the two next indexes
    module _ (l : n < 32) (q m : ℕ) (x y : Window) (ex : x ≡ head_of la) (ey : y ≡ head_of lb) (eq : q ≡ min x.index y.index) (hq : q < 67108864) (em : m ≡ f (mask_if x q) (mask_if y q)) where
      lo : w.bound ≤ q
      lo =
          let p = head_low w.bound la w.a_left w.top in
          let r = head_low w.bound lb w.b_left w.top in
          omega (arith, ap (λ (v : Window). v.index) ex, ap (λ (v : Window). v.index) ey)

      turn_a : Part q la
      turn_a = turn w.bound q la w.a_left (omega (arith, ap (λ (v : Window). v.index) ex)) hq

      turn_b : Part q lb
      turn_b = turn w.bound q lb w.b_left (omega (arith, ap (λ (v : Window). v.index) ey)) hq

      -- nothing stands between the bound and q
      gap_a : (p : ℕ) → p < q → mask_at la p ≡ 0
      gap_a p h = mask_below q la p (rises_up w.bound q la w.a_left (omega (arith, ap (λ (v : Window). v.index) ex))) h

      gap_b : (p : ℕ) → p < q → mask_at lb p ≡ 0
      gap_b p h = mask_below q lb p (rises_up w.bound q lb w.b_left (omega (arith, ap (λ (v : Window). v.index) ey))) h

      abbrev next : PageSet
      next = pushed q m (made n ws)

      shows : shown next ≡ take n ws ++ one q m
      shows = push_shown n ws w.tidy l q m

      value : m ≡ f (mask_at (shown a) q) (mask_at (shown b) q)
      value =
          em ∙ ap₂ (λ (u v : Window). f (mask_if u q) (mask_if v q)) ex ey
          ∙ ap₂ f (sym turn_a.here ∙ w.a_same q lo) (sym turn_b.here ∙ w.b_same q lo)

      small : m < 2 ^ 64
      small = rw (em, ex, ey) (fits _ _ turn_a.small turn_b.small)

      merged_next : (p : ℕ) → p < q + 1 → mask_at (shown next) p ≡ f (mask_at (shown a) p) (mask_at (shown b) p)
      merged_next p h = ap (λ (z : List Window). mask_at z p) shows ∙ go (eq_or q p) (lt_or p w.bound)
        where
          go : (q ≡ p) ⊎ (q ≡ p → ⊥) → (p < w.bound) ⊎ (w.bound ≤ p) → mask_at (take n ws ++ one q m) p ≡ f (mask_at (shown a) p) (mask_at (shown b) p)
          go (inl z) c = rw (← z) (push_same 0 w.bound (take n ws) w.span q m lo ∙ value)
          go (inr z) (inl c) = push_other (take n ws) q m p z ∙ w.merged p c
          go (inr z) (inr c) =
              let g : p < q = omega arith in
              push_other (take n ws) q m p z ∙ span_past 0 w.bound (take n ws) w.span p c
              ∙ sym (ap₂ f (sym (w.a_same p c) ∙ gap_a p g) (sym (w.b_same p c) ∙ gap_b p g) ∙ none_of_none)

      -- what is left, as the code counts it on
      rest : (s : PageSet) (j : ℕ) (v : Window) → v ≡ head_of (drop j (shown s)) → drop (j + taken v q) (shown s) ≡ drop (taken (head_of (drop j (shown s))) q) (drop j (shown s))
      rest s j v e = ap (λ (u : Window). drop (j + taken u q) (shown s)) e ∙ sym (drop-drop (taken (head_of (drop j (shown s))) q) j (shown s))

      most : (s : PageSet) → Tidy s → (j : ℕ) (v : Window) → v ≡ head_of (drop j (shown s)) → j ≤ s.len → Part q (drop j (shown s)) → j + taken v q ≤ s.len
      most s t j v e h r = rw e (omega (arith, r.there, length-drop j (shown s), shown_length s t))

      merge_more : Merging a b (i + taken x q) (k + taken y q) next
      merge_more =
          record {
            a_most = most a ta.tidy i x ex w.a_most turn_a;
            b_most = most b tb.tidy k y ey w.b_most turn_b;
            tidy = push_tidy n ws w.tidy l q m;
            bound = q + 1;
            top = omega arith;
            span = rw shows (span_push 0 w.bound (take n ws) w.span q m lo hq small);
            a_left = rw (rest a i x ex) turn_a.left;
            b_left = rw (rest b k y ey) turn_b.left;
            a_same = λ p h. ap (λ (z : List Window). mask_at z p) (rest a i x ex) ∙ turn_a.later p (omega arith) ∙ w.a_same p (omega (arith, lo));
            b_same = λ p h. ap (λ (z : List Window). mask_at z p) (rest b k y ey) ∙ turn_b.later p (omega arith) ∙ w.b_same p (omega (arith, lo));
            merged = merged_next;
          }

    -- a turn as the code makes it
    module _ (l : n < 32) (x y : Window) (ex : x ≡ head_of la) (ey : y ≡ head_of lb) (t : Turn) (et : t ≡ turn_of x y) (hq : min x.index y.index < 67108864) where
      pub merge_step : (m : ℕ) → m ≡ f t.left t.right → Merging a b (i + t.lefts) (k + t.rights) (pushed t.index m (made n ws))
      merge_step m em =
          let z : m ≡ f (mask_if x (min x.index y.index)) (mask_if y (min x.index y.index)) = em ∙ ap (λ (u : Turn). f u.left u.right) et in
          rw et (merge_more l (min x.index y.index) m x y ex ey refl hq z)

      -- a mask where the left side has none is none
      pub few_step : ((y : ℕ) → f 0 y ≡ 0) → (m : ℕ) → m ≡ f t.left t.right → n ≤ i → n + step m ≤ i + t.lefts
      few_step z m em h = go (eq_or x.index (min x.index y.index))
        where
          go : (x.index ≡ min x.index y.index) ⊎ (x.index ≡ min x.index y.index → ⊥) → n + step m ≤ i + t.lefts
          go (inl e) =
              let z : t.lefts ≡ 1 = ap (λ (u : Turn). u.lefts) et ∙ ap (λ (c : Bool). cond c 1 0) (eq-eqb x.index (min x.index y.index) e) in
              omega (arith, step_most m)
          go (inr e) =
              let u : t.left ≡ 0 = ap (λ (u : Turn). u.left) et ∙ ap (λ (c : Bool). cond c x.mask 0) (ne_eqb x.index (min x.index y.index) e) in
              let v : m ≡ 0 = em ∙ ap (λ (k : ℕ). f k t.right) u ∙ z t.right in
              omega (arith, ap step v)

    -- ---- the end

    ended : (s : PageSet) → Normal s → (j : ℕ) → s.len ≤ j → (q : ℕ) → mask_at (drop j (shown s)) q ≡ 0
    ended s t j h q = ap (λ (z : List Window). mask_at z q) (done s (room s t.tidy) j h) ∙ mask_nil q

    -- nothing is left on either side; or nothing on the left side, where f gives nothing without it
    module _ (h : (q : ℕ) → w.bound ≤ q → f (mask_at (shown a) q) (mask_at (shown b) q) ≡ 0) where
      pub merge_masks : (q : ℕ) → mask_at (take n ws) q ≡ f (mask_at (shown a) q) (mask_at (shown b) q)
      merge_masks q = go (lt_or q w.bound)
        where
          go : (q < w.bound) ⊎ (w.bound ≤ q) → mask_at (take n ws) q ≡ f (mask_at (shown a) q) (mask_at (shown b) q)
          go (inl c) = w.merged q c
          go (inr c) = span_past 0 w.bound (take n ws) w.span q c ∙ sym (h q c)

    pub both_ended : a.len + b.len ≤ i + k → (q : ℕ) → w.bound ≤ q → f (mask_at (shown a) q) (mask_at (shown b) q) ≡ 0
    both_ended h q c =
        ap₂ f (sym (w.a_same q c) ∙ ended a ta i (omega (arith, w.b_most)) q) (sym (w.b_same q c) ∙ ended b tb k (omega (arith, w.a_most)) q) ∙ none_of_none

    pub left_ended : ((y : ℕ) → f 0 y ≡ 0) → a.len ≤ i → (q : ℕ) → w.bound ≤ q → f (mask_at (shown a) q) (mask_at (shown b) q) ≡ 0
    left_ended z h q c = ap (λ (u : ℕ). f u (mask_at (shown b) q)) (sym (w.a_same q c) ∙ ended a ta i h q) ∙ z _

    pub merge_rises : Rises 0 (take n ws)
    merge_rises = span_rises 0 w.bound (take n ws) w.span

    -- ---- the refusal: the windows that are made, with those that one side has left, are too many for a set of these masks

    module _ (s : PageSet) (t : Normal s) (masks : (q : ℕ) → mask_at (shown s) q ≡ f (mask_at (shown a) q) (mask_at (shown b) q)) (some_left : (x y : ℕ) → 0 < x → 0 < f x y) (some_right : (x y : ℕ) → 0 < y → 0 < f x y) where
      too_many : (l : List Window) → Rises w.bound l → ((q : ℕ) → w.bound ≤ q → 0 < mask_at l q → 0 < mask_at (shown s) q) → n + length l ≤ s.len
      too_many l r c =
          let g = longer 0 0 (take n ws ++ l) (shown s) (span_join 0 w.bound (take n ws) l w.span r) t.rising (λ q h. go q (either (take n ws) l q h) (lt_or q w.bound)) in
          omega (arith, length-append (take n ws) l, shown_length (made n ws) w.tidy, shown_length s t.tidy)
        where
          go : (q : ℕ) → (0 < mask_at (take n ws) q) ⊎ (0 < mask_at l q) → (q < w.bound) ⊎ (w.bound ≤ q) → 0 < mask_at (shown s) q
          go q (inl h) (inl e) = omega (arith, masks q, w.merged q e)
          go q (inl h) (inr e) = absurd (omega (arith, span_past 0 w.bound (take n ws) w.span q e))
          go q (inr h) (inl e) = absurd (omega (arith, mask_below w.bound l q r e))
          go q (inr h) (inr e) = c q e h

      pub merge_refused : 32 ≤ n → i + k < a.len + b.len → ⊥
      merge_refused g h = go (lt_or i a.len)
        where
          go : (i < a.len) ⊎ (a.len ≤ i) → ⊥
          go (inl e) =
              omega (arith, t.tidy.short, length-drop i (shown a), shown_length a ta.tidy, too_many la w.a_left (λ q c p. rw (masks q) (some_left _ _ (rw (w.a_same q c) at p))))
          go (inr e) =
              omega (arith, t.tidy.short, length-drop k (shown b), shown_length b tb.tidy, too_many lb w.b_left (λ q c p. rw (masks q) (some_right _ _ (rw (w.b_same q c) at p))))
