-- How a loop walks a set's windows and fills another's: the windows that are left, one window more at the end, and that a set in normal form is
-- known by its pages. Assumes nothing.
use Rattle.std.proofs.Common.{◌≡◌, ℕ, zero, suc, ◌+◌, ◌-◌, ◌*◌, ◌/◌, ◌%◌, ◌<◌, ◌≤◌, min, cond, eqb, ltb, ◌⊎◌, List, [], ◌∷◌, ◌++◌, length, get_or, take, drop, set, replicate, sym, refl, ap, ◌∙◌, ap₂, inl, inr, append-nil, add-one, arith, length-set, take-append-drop, drop_of_length-le, length-take-le, get_or-drop, drop-cons, get_or-take, drop-drop, take-suc-set, drop-set-lt, le-ltb, lt-ltb, ne_eqb}
use mir.Val.{Val}
use denote.Laws.{Is}
use denote.Struct.Declared.{row}
use lib.ListN.{get_or-replicate}
use lib.Seq.{set-get_or}
use Rattle.pageset.specs.contracts.PageSet.{the_type}
use Rattle.pageset.specs.declared.Window.{Window}
use Rattle.pageset.specs.declared.PageSet.{PageSet}
use Rattle.pageset.specs.Sets.{bit, mask_at, holds, shown, member, zero_window}
use Rattle.pageset.specs.Windows.{past_all, window_of}
use Rattle.pageset.proofs.BitLaws.{bit_ext}
use Rattle.pageset.proofs.FormLaws.{Rises, Tidy, Normal, shown_length}
use Rattle.pageset.proofs.WindowLaws.{lt_or, mask_nil, mask_same, mask_other, mask_lt, known}

-- ---- what the type tells

-- of a parameter `c.good.0` (the first) or `c.good.1.0` (the second), of a call's result its `.ok`
pub long_of : (s : PageSet) (vs : List Val) → Is (row the_type) s vs → length s.windows ≡ 32
long_of s vs g = g.1.1.1.0.1.0.1

-- ---- the windows that a walk bit left

pub room : (s : PageSet) → Tidy s → s.len ≤ length s.windows
room s t = omega (arith, t.short, t.whole)

module _ (s : PageSet) (t : s.len ≤ length s.windows) (i : ℕ) where
  shown_long : length (shown s) ≡ s.len
  shown_long = length-take-le s.len s.windows t

  -- the next window, and the rest
  pub front : i < s.len → drop i (shown s) ≡ get_or s.windows i zero_window ∷ drop (i + 1) (shown s)
  front h =
      let k : i < length (shown s) = rw shown_long h in
      rw add-one (drop-cons (shown s) i zero_window k ∙ ap (λ (w : Window). w ∷ drop (suc i) (shown s)) (get_or-take s.len s.windows i zero_window h))

  -- zero_window is left
  pub done : s.len ≤ i → drop i (shown s) ≡ []
  done h = drop_of_length-le (shown s) {i = i} (rw shown_long h)

-- the next window of a list, and the rest
pub next_of : (xs : List Window) (i : ℕ) → i < length xs → drop i xs ≡ get_or xs i zero_window ∷ drop (i + 1) xs
next_of xs i h = rw (add-one, drop-cons xs i zero_window)

-- a walk that looks for the window of index q
module _ (xs : List Window) (i q : ℕ) (h : mask_at (drop i xs) q ≡ mask_at xs q) where
  pub found : i < length xs → (get_or xs i zero_window).index ≡ q → (get_or xs i zero_window).mask ≡ mask_at xs q
  found k e = sym (mask_same _ _ q e) ∙ ap (λ (x : List Window). mask_at x q) (sym (next_of xs i k)) ∙ h

  pub passed : i < length xs → ((get_or xs i zero_window).index ≡ q → ⊥) → mask_at (drop (i + 1) xs) q ≡ mask_at xs q
  passed k e = sym (mask_other _ _ q e) ∙ ap (λ (x : List Window). mask_at x q) (sym (next_of xs i k)) ∙ h

  pub missed : length xs ≤ i → 0 ≡ mask_at xs q
  missed k = sym (mask_nil q) ∙ ap (λ (x : List Window). mask_at x q) (sym (drop_of_length-le xs {i = i} k)) ∙ h

-- a window of a list in order
rises_nth : (ws : List Window) (n i lo : ℕ) → Rises lo (take n ws) → i < n → n ≤ length ws → (get_or ws i zero_window).index < 67108864
unfolding Rises
rises_nth [] n i lo r h l = absurd (omega arith)
rises_nth (w ∷ ws) zero i lo r h l = absurd (omega arith)
rises_nth (w ∷ ws) (suc n) zero lo r h l = r.1
rises_nth (w ∷ ws) (suc n) (suc i) lo r h l = rises_nth ws n i (w.index + 1) r.4 (omega arith) (omega arith)

pub rises_at : (s : PageSet) → Normal s → (i : ℕ) → i < s.len → (get_or s.windows i zero_window).index < 67108864
rises_at s t i h = rises_nth s.windows s.len i 0 t.rising h (room s t.tidy)

-- ---- the array's form

-- a tidy set is known by its windows that count
pub tidy_known : (a b : PageSet) → Tidy a → Tidy b → shown a ≡ shown b → a ≡ b
tidy_known a b s t e =
    let l : a.len ≡ b.len = sym (shown_length a s) ∙ ap length e ∙ shown_length b t in
    let d : drop a.len a.windows ≡ drop b.len b.windows = s.rest ∙ ap (λ (n : ℕ). replicate (32 - n) zero_window) l ∙ sym t.rest in
    let m : a.windows ≡ b.windows = sym (take-append-drop a.len a.windows) ∙ ap₂ ◌++◌ e d ∙ take-append-drop b.len b.windows in
    λ i. record { len = l i; windows = m i }

-- ---- THE LAW OF UNIQUENESS: a normal set is known by its members

masks_of : (a b : List Window) (lo lo' : ℕ) → Rises lo a → Rises lo' b
    → ((p : ℕ) → bit (mask_at a (p / 64)) (p % 64) ≡ bit (mask_at b (p / 64)) (p % 64)) → (q : ℕ) → mask_at a q ≡ mask_at b q
masks_of a b lo lo' r t h q =
    bit_ext 64 _ _ (mask_lt lo a q r) (mask_lt lo' b q t) (λ k l.
    let d : (q * 64 + k) / 64 ≡ q = omega arith in
    let m : (q * 64 + k) % 64 ≡ k = omega arith in
    sym (ap₂ (λ (x y : ℕ). bit (mask_at a x) y) d m) ∙ h (q * 64 + k) ∙ ap₂ (λ (x y : ℕ). bit (mask_at b x) y) d m)

pub unique : (a b : PageSet) → Normal a → Normal b → ((p : ℕ) → member a p ≡ member b p) → a ≡ b
unfolding holds
unique a b s t h =
    tidy_known a b s.tidy t.tidy
    (known 0 0 (shown a) (shown b) s.rising t.rising (masks_of (shown a) (shown b) 0 0 s.rising t.rising h))

-- ---- one window more: the code stores `window_of q m` at place n, and counts it where the mask is not zero

-- the windows that this adds
unfoldable pub one : ℕ → ℕ → List Window
one q zero = []
one q (suc m) = record { index = q; mask = suc m } ∷ []

-- a set under way: n windows of an array
abbrev pub made : ℕ → List Window → PageSet
made n ws = record { len = n; windows = ws }

abbrev pub step : ℕ → ℕ
step m = cond (eqb m 0) 0 1

one_less : (n k : ℕ) → n ≡ k + 1 → drop 1 (replicate n zero_window) ≡ replicate k zero_window
one_less zero k h = absurd (omega arith)
one_less (suc n) k h = let e : n ≡ k = omega arith in ap (λ (x : ℕ). replicate x zero_window) e

module _ (n : ℕ) (ws : List Window) (t : Tidy (made n ws)) (h : n < 32) where
  -- what stands at n is zero
  zero_here : get_or ws n zero_window ≡ zero_window
  zero_here =
      let e : n + 0 ≡ n = omega arith in
      ap (λ (k : ℕ). get_or ws k zero_window) (sym e)
      ∙ sym (get_or-drop n ws 0 zero_window)
      ∙ ap (λ (l : List Window). get_or l 0 zero_window) t.rest
      ∙ get_or-replicate (32 - n) 0 zero_window zero_window (omega arith)

  -- a zero window changes nothing
  zero_kept : set ws n zero_window ≡ ws
  zero_kept = ap (set ws n) (sym zero_here) ∙ set-get_or ws n zero_window

  more_tidy : (w : Window) → Tidy (made (n + 1) (set ws n w))
  more_tidy w =
      record {
        short = omega arith;
        whole = simp length-set t.whole;
        rest = drop-set-lt (n + 1) ws n w (omega arith) ∙ sym (drop-drop 1 n ws) ∙ ap (drop 1) t.rest ∙ one_less (32 - n) (32 - (n + 1)) (omega arith);
      }

  more_shown : (w : Window) → shown (made (n + 1) (set ws n w)) ≡ shown (made n ws) ++ (w ∷ [])
  more_shown w = rw add-one (take-suc-set ws n w (omega (arith, t.whole)))

  pub push_tidy : (q m : ℕ) → Tidy (made (n + step m) (set ws n (window_of q m)))
  push_tidy q zero = let e : n + 0 ≡ n = omega arith in rw (e, zero_kept) t
  push_tidy q (suc m) = rw (ne_eqb (suc m) 0 (λ e. omega arith)) (more_tidy (record { index = q; mask = suc m }))

  pub push_shown : (q m : ℕ) → shown (made (n + step m) (set ws n (window_of q m))) ≡ shown (made n ws) ++ one q m
  unfolding one
  push_shown q zero = let e : n + 0 ≡ n = omega arith in rw (e, zero_kept) (sym (append-nil (take n ws)))
  push_shown q (suc m) = rw (ne_eqb (suc m) 0 (λ e. omega arith)) (more_shown (record { index = q; mask = suc m }))

-- the array of zero windows is the empty set
pub made_empty : Tidy (made 0 (replicate 32 zero_window))
made_empty = record { short = omega arith; whole = refl; rest = refl }

-- ---- the next window, as the code reads it: at a place below 32, and past the last one a window above all others

unfoldable pub head_of : List Window → Window
head_of [] = past_all
head_of (w ∷ ws) = w

pub head_cons : (w : Window) (ws : List Window) → head_of (w ∷ ws) ≡ w
unfolding head_of
head_cons w ws = refl

head_nil : head_of [] ≡ past_all
unfolding head_of
head_nil = refl

pub head_is : (s : PageSet) → Tidy s → (i : ℕ) → cond (ltb i s.len) (get_or s.windows (min i 31) zero_window) past_all ≡ head_of (drop i (shown s))
head_is s t i = go (lt_or i s.len)
  where
    go : (i < s.len) ⊎ (s.len ≤ i) → cond (ltb i s.len) (get_or s.windows (min i 31) zero_window) past_all ≡ head_of (drop i (shown s))
    go (inl l) =
        let e : min i 31 ≡ i = omega (arith, t.short) in
        rw (lt-ltb i s.len l, e) (sym (ap head_of (front s (room s t) i l) ∙ head_cons _ _))
    go (inr l) = rw (le-ltb i s.len l) (sym (ap head_of (done s (room s t) i l) ∙ head_nil))

pub head_at_lem : (s : PageSet) → Tidy s → (i : ℕ) → i < s.len → get_or s.windows i zero_window ≡ head_of (drop i (shown s))
head_at_lem s t i l = sym (ap head_of (front s (room s t) i l) ∙ head_cons _ _)
