-- A walk over a set's windows that keeps of each the bits of a mask, g q at window q, and pushes what is left to another set. Assumes nothing.
use Rattle.std.proofs.Common.{◌≡◌, ℕ, ◌+◌, ◌/◌, ◌%◌, ◌^◌, ◌<◌, ◌≤◌, Bool, ◌&&◌, ◌⊎◌, List, [], ◌∷◌, ◌++◌, length, get_or, drop, set, replicate, sym, refl, ap, ◌∙◌, inl, inr, append_assoc, append-nil, lt_of_le_of_lt, arith, length-append, get_or-take}
use lib.Bits.{bit_and, and_le_l, and_zero_l}
use Rattle.pageset.specs.declared.Window.{Window}
use Rattle.pageset.specs.declared.PageSet.{PageSet}
use Rattle.pageset.specs.Sets.{bit, mask_at, holds, shown, member, zero_window}
use Rattle.pageset.specs.Windows.{window_of, pushed}
use Rattle.pageset.proofs.BitLaws.{bit_and_lem}
use Rattle.pageset.proofs.FormLaws.{Rises, Tidy, Normal, shown_length}
use Rattle.pageset.proofs.WindowLaws.{eq_or, mask_nil, mask_same, mask_other, mask_below}
use Rattle.pageset.proofs.WalkLaws.{one, made, step, made_empty, push_tidy, push_shown, room, next_of, done}
use Rattle.pageset.proofs.SpanLaws.{one_length, one_rises, one_same, one_other}

-- each window with the mask that f gives it, without those that have no bit left
module _ (f : ℕ → ℕ → ℕ) where
  pub remask : List Window → List Window
  remask [] = []
  remask (w ∷ ws) = one w.index (f w.index w.mask) ++ remask ws

  remask_nil : remask [] ≡ []
  unfolding remask
  remask_nil = refl

  remask_cons : (w : Window) (ws : List Window) → remask (w ∷ ws) ≡ one w.index (f w.index w.mask) ++ remask ws
  unfolding remask
  remask_cons w ws = refl

  module _ (small : (q m : ℕ) → m < 2 ^ 64 → f q m < 2 ^ 64) where
    remask_rises : (lo : ℕ) (ws : List Window) → Rises lo ws → Rises lo (remask ws)
    unfolding remask Rises
    remask_rises lo [] r = tt
    remask_rises lo (w ∷ ws) r = one_rises w.index _ lo (remask ws) r.0 r.1 (small w.index w.mask r.3) (remask_rises (w.index + 1) ws r.4)

    module _ (zero_window_of_zero_window : (q : ℕ) → f q 0 ≡ 0) where
      remask_mask : (lo : ℕ) (ws : List Window) → Rises lo ws → (q : ℕ) → mask_at (remask ws) q ≡ f q (mask_at ws q)
      unfolding remask Rises
      remask_mask lo [] r q = mask_nil q ∙ sym (ap (f q) (mask_nil q) ∙ zero_window_of_zero_window q)
      remask_mask lo (w ∷ ws) r q = go (eq_or w.index q) (remask_mask (w.index + 1) ws r.4)
        where
          go : (w.index ≡ q) ⊎ (w.index ≡ q → ⊥) → ((p : ℕ) → mask_at (remask ws) p ≡ f p (mask_at ws p))
              → mask_at (one w.index (f w.index w.mask) ++ remask ws) q ≡ f q (mask_at (w ∷ ws) q)
          go (inl e) ih =
              rw (← e) (one_same w.index _ (remask ws) (mask_below (w.index + 1) (remask ws) w.index (remask_rises (w.index + 1) ws r.4) (omega arith))
              ∙ sym (ap (f w.index) (mask_same w ws w.index refl)))
          go (inr n) ih = one_other w.index _ (remask ws) q n ∙ ih q ∙ sym (ap (f q) (mask_other w ws q n))

module _ (g : ℕ → ℕ) where
  abbrev cut_by : ℕ → ℕ → ℕ
  cut_by q m = bit_and m (g q)

  -- after i of the windows xs: what `out` holds, with what the rest will give, is what all of xs give
  pub record Walked (xs : List Window) (i : ℕ) (out : PageSet) : Type 0 where
    pub tidy : Tidy out
    pub few : out.len ≤ i
    pub all : shown out ++ remask cut_by (drop i xs) ≡ remask cut_by xs

  pub walk_start : (xs : List Window) → Walked xs 0 (made 0 (replicate 32 zero_window))
  walk_start xs = record { tidy = made_empty; few = omega arith; all = refl }

  -- a turn: what is left of window i is pushed
  pub walk_push : (xs : List Window) (i : ℕ) (out : PageSet) → i < length xs → i < 32 → Walked xs i out → (m : ℕ)
      → m ≡ bit_and (get_or xs i zero_window).mask (g (get_or xs i zero_window).index) → Walked xs (i + 1) (pushed (get_or xs i zero_window).index m out)
  walk_push xs i out h b w m e =
      let q : ℕ = (get_or xs i zero_window).index in
      let l : out.len < 32 = omega (arith, w.few) in
      let p : shown (pushed q m out) ≡ shown out ++ one q m = push_shown out.len out.windows w.tidy l q m in
      let k : Tidy (pushed q m out) = push_tidy out.len out.windows w.tidy l q m in
      record {
        tidy = k;
        few = omega (arith, shown_length (pushed q m out) k, ap length p, length-append (shown out) (one q m), one_length q m, shown_length out w.tidy, w.few);
        all =
            ap (λ (x : List Window). x ++ remask cut_by (drop (i + 1) xs)) p
            ∙ append_assoc (shown out) _ _
            ∙ ap (λ (x : ℕ). shown out ++ (one q x ++ remask cut_by (drop (i + 1) xs))) e
            ∙ ap (λ (x : List Window). shown out ++ x) (sym (remask_cons cut_by (get_or xs i zero_window) (drop (i + 1) xs)))
            ∙ ap (λ (x : List Window). shown out ++ remask cut_by x) (sym (next_of xs i h))
            ∙ w.all;
      }

  -- the same of a set's window, with the window and the count that the array and its length get
  pub walk_step : (s : PageSet) (t : Tidy s) (i n : ℕ) (ws : List Window) → i < s.len → Walked (shown s) i (made n ws) → (m : ℕ)
      → m ≡ bit_and (get_or s.windows i zero_window).mask (g (get_or s.windows i zero_window).index)
      → (v : Window) → v ≡ window_of (get_or s.windows i zero_window).index m → (r : ℕ) → r ≡ step m → Walked (shown s) (i + 1) (made (n + r) (set ws n v))
  walk_step s t i n ws h w m e v ev r er =
      let z : get_or (shown s) i zero_window ≡ get_or s.windows i zero_window = get_or-take s.len s.windows i zero_window h in
      rw (ev, er) (rw z at (walk_push (shown s) i (made n ws) (rw (shown_length s t) h) (omega (arith, t.short)) w m (rw z e)))

  module _ (s : PageSet) (t : Normal s) (i : ℕ) (out : PageSet) (h : s.len ≤ i) (w : Walked (shown s) i out) where
    walk_end : shown out ≡ remask cut_by (shown s)
    walk_end =
        sym (append-nil (shown out))
        ∙ ap (λ (x : List Window). shown out ++ x) (sym (remask_nil cut_by))
        ∙ ap (λ (x : List Window). shown out ++ remask cut_by x) (sym (done s (room s t.tidy) i h))
        ∙ w.all

    small : (q m : ℕ) → m < 2 ^ 64 → cut_by q m < 2 ^ 64
    small q m l = lt_of_le_of_lt (and_le_l m (g q)) l

    walk_mask : (q : ℕ) → mask_at (shown out) q ≡ bit_and (mask_at (shown s) q) (g q)
    walk_mask q =
        ap (λ (x : List Window). mask_at x q) walk_end
        ∙ remask_mask cut_by small (λ k. and_zero_l (g k)) 0 (shown s) t.rising q

    pub walk_member : (p : ℕ) → member out p ≡ (member s p && bit (g (p / 64)) (p % 64))
    unfolding holds
    walk_member p = ap (λ (m : ℕ). bit m (p % 64)) (walk_mask (p / 64)) ∙ bit_and_lem _ _ (p % 64)

    pub walk_normal : Normal out
    walk_normal =
        record {
          tidy = w.tidy;
          rising = rw walk_end (remask_rises cut_by small 0 (shown s) t.rising);
          no_zero = walk_member 0 ∙ ap (λ (b : Bool). b && bit (g 0) 0) t.no_zero;
        }
