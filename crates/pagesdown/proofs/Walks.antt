-- A walk over the pages of a set from the last down yields them all, last first: at its start the pages of the set are left (`walk_all`), each step takes the last of
-- the pages that are left (`step_done`), and where they are counted down to 0 none is left (`walk_end`); `all_yielded` says it of the whole walk.
-- Where the window under way has no page left, the next one down has the last of them (`left_next`).
use Prim.Native.Nat.{ℕ, zero, suc, ◌+◌, ◌-◌, ◌*◌, ◌%◌, ◌^◌, ◌≤◌, ◌<◌}
use mathlib.Core.Path.{◌≡◌, refl, sym, ap, ◌∙◌, subst}
use mathlib.Core.Logic.{⊎_elim}
use mathlib.Core.Bool.{Bool, true, false, cond}
use mathlib.Core.List.{List, [], ◌∷◌, ◌++◌, append-nil, append_assoc, reverse, reverse-append}
use native.Mathlib.Omega.{arith}
use borrow.Author.Tests.{eqb-true, eqb-false}
use lib.Dec.{eqb}
use lib.ListN.{length, take, get_or, length-append}
use lib.Seq.{take-suc}
use Rattle.pageset.specs.declared.Window.{Window}
use Rattle.pageset.specs.declared.PageSet.{PageSet}
use Rattle.pageset.specs.Sets.{bit, shown, member, zero_window, normal}
use Rattle.pageset.specs.Counts.{count}
use Rattle.pageset.proofs.BitLaws.{bit_none}
use Rattle.pageset.proofs.FormLaws.{Normal, normal_fact, shown_form}
use Rattle.pageset.proofs.WindowLaws.{eq_or}
use Rattle.pageset.proofs.WalkLaws.{room, rises_at}
use Rattle.pageset.proofs.EdgeLaws.{shown_at}
use Rattle.rules.specs.Pages.{pages_in}
use Rattle.rules.proofs.PageCounts.{those_none, size_counts}
use Rattle.pagesdown.specs.Down.{LastOf, pages_left, under, Stepped}
use Rattle.pagesdown.proofs.LastLaws.{pages, one_window}

-- ---- the pages that are left

pages_append : (a b : List Window) → pages_in (a ++ b) ≡ pages_in a ++ pages_in b
unfolding pages_in
pages_append [] b = refl
pages_append (w ∷ a) b =
    ap (λ (l : List ℕ). pages w.index w.mask ++ l) (pages_append a b) ∙ sym (append_assoc (pages w.index w.mask) (pages_in a) (pages_in b))

-- a window whose mask is 0 has none
no_page : (w : Window) → w.mask ≡ 0 → pages_in (w ∷ []) ≡ []
no_page w e = one_window w ∙ those_none (λ p. bit w.mask (p % 64)) (w.index * 64) 64 (λ p u v. ap (λ (m : ℕ). bit m (p % 64)) e ∙ bit_none (p % 64))

module _ (ws : List Window) (n : ℕ) (w : Window) where
  left_two : pages_left ws n w ≡ pages_in (take n ws) ++ pages_in (w ∷ [])
  unfolding pages_left
  left_two = pages_append (take n ws) (w ∷ [])

  left_done : w.mask ≡ 0 → pages_left ws n w ≡ pages_in (take n ws)
  left_done e = left_two ∙ ap (λ (l : List ℕ). pages_in (take n ws) ++ l) (no_page w e) ∙ append-nil (pages_in (take n ws))

-- the last page of the window under way is the last of all
left_last : (ws : List Window) (n : ℕ) (w : Window) (page : ℕ) (rest : Window) → LastOf w page rest → pages_left ws n w ≡ pages_left ws n rest ++ page ∷ []
left_last ws n w page rest h =
    left_two ws n w
    ∙ ap (λ (l : List ℕ). pages_in (take n ws) ++ l) h.pages
    ∙ sym (append_assoc (pages_in (take n ws)) (pages_in (rest ∷ [])) (page ∷ []))
    ∙ ap (λ (l : List ℕ). l ++ page ∷ []) (sym (left_two ws n rest))

-- the next window down
left_next : (ws : List Window) (n : ℕ) (w : Window) → w.mask ≡ 0 → 0 < n → n ≤ length ws → pages_left ws n w ≡ pages_left ws (n - 1) (get_or ws (n - 1) zero_window)
unfolding pages_left
left_next ws n w e p h =
    let z : n ≡ suc (n - 1) = omega arith in
    left_done ws n w e ∙ ap (λ (m : ℕ). pages_in (take m ws)) z ∙ ap pages_in (take-suc ws (n - 1) zero_window (omega arith))

-- ---- the walk

-- the first n windows of s are not begun, w is what is left of a window, and k pages are left
pub record Walking (s : PageSet) (n : ℕ) (w : Window) (k : ℕ) : Type 0 where
  pub within : n ≤ s.len
  pub index : w.index < 67108864
  pub mask : w.mask < 2 ^ 64
  pub pages : length (pages_left s.windows n w) ≡ k

-- the walk goes on: the next page is in the window v, the first m windows are not begun then, and the pages l are left
record Ahead (s : PageSet) (m : ℕ) (v : Window) (k : ℕ) (l : List ℕ) : Type 0 where
  walk : Walking s m v k
  some : 0 < v.mask
  same : l ≡ pages_left s.windows m v

module _ (s : PageSet) (e : normal s ≡ true) where
  its : Normal s
  its = normal_fact s e

  -- all the pages are left
  pub walk_all : pages_left s.windows s.len zero_window ≡ pages_in (shown s)
  walk_all = left_done s.windows s.len zero_window refl

  pub walk_start : (k : ℕ) → k ≡ count (member s) (2 ^ 32) → Walking s s.len zero_window k
  walk_start k c = record {
    within = omega arith;
    index = omega arith;
    mask = omega arith;
    pages = ap length walk_all ∙ size_counts (shown s) (shown_form s e) ∙ sym c;
  }

  module _ (n : ℕ) (w : Window) (k : ℕ) (h : Walking s n w k) where
    -- none is left
    pub walk_end : k ≡ 0 → pages_left s.windows n w ≡ []
    walk_end z = empty (pages_left s.windows n w) (h.pages ∙ z)
      where
        empty : (l : List ℕ) → length l ≡ 0 → l ≡ []
        empty [] q = refl
        empty (x ∷ l) q = absurd (omega arith)

    -- the window below w is one of the array
    pub walk_place : n - 1 < 32
    walk_place = omega (arith, h.within, its.tidy.short)

    module _ (p : 0 < k) where
      -- where the window under way has no page left and pages are, a window is not begun
      more : w.mask ≡ 0 → 0 < n
      unfolding pages_in
      more z = go n refl
        where
          go : (m : ℕ) → n ≡ m → 0 < n
          go zero q =
              let l : length (pages_left s.windows n w) ≡ 0 = ap length (left_done s.windows n w z) ∙ ap (λ (m : ℕ). length (pages_in (take m s.windows))) q in
              omega (arith, h.pages)
          go (suc m) q = omega arith

      abbrev below : Window
      below = get_or s.windows (n - 1) zero_window

      ahead : (b : Bool) → eqb w.mask 0 ≡ b → Ahead s (cond b (n - 1) n) (cond b below w) k (pages_left s.windows n w)
      ahead true q =
          let z : w.mask ≡ 0 = eqb-true w.mask 0 q in
          let i : n - 1 < s.len = omega (arith, h.within, more z) in
          let nth = shown_at s its (n - 1) i in
          let same = left_next s.windows n w z (more z) (omega (arith, h.within, room s its.tidy)) in
          record {
            walk = record { within = omega (arith, h.within); index = rises_at s its (n - 1) i; mask = nth.fits; pages = ap length (sym same) ∙ h.pages };
            some = nth.some;
            same = same;
          }
      ahead false q = record { walk = h; some = let z = eqb-false w.mask 0 q in omega arith; same = refl }

      onward : Ahead s (cond (eqb w.mask 0) (n - 1) n) (under w below) k (pages_left s.windows n w)
      onward = ahead (eqb w.mask 0) refl

      -- the window at the place j, which is the one below w
      module _ (j : ℕ) (ej : j ≡ n - 1) where
        -- what `next_down` requires
        pub step_ready : (0 < (under w (get_or s.windows j zero_window)).mask) × ((under w (get_or s.windows j zero_window)).index < 67108864) × (0 < n + w.mask)
        step_ready = rw ej (onward.some, onward.walk.index, ⊎_elim (λ z. omega (arith, more z)) (λ z. omega arith) (eq_or w.mask 0))

        module _ (page m : ℕ) (rest : Window) (t : Stepped n w (get_or s.windows j zero_window) page m rest) where
          last : LastOf (under w below) page rest
          last = rw ej at t.last

          -- the last of the pages that are left
          step_last : pages_left s.windows n w ≡ pages_left s.windows m rest ++ page ∷ []
          step_last =
              onward.same
              ∙ left_last s.windows (cond (eqb w.mask 0) (n - 1) n) (under w below) page rest last
              ∙ ap (λ (i : ℕ). pages_left s.windows i rest ++ page ∷ []) (sym t.begun)

          step_on : Walking s m rest (k - 1)
          step_on = record {
            within = omega (arith, t.begun, onward.walk.within);
            index = omega (arith, last.index, onward.walk.index);
            mask = omega (arith, last.less, onward.walk.mask);
            pages = omega (arith, h.pages, ap length step_last, length-append (pages_left s.windows m rest) (page ∷ []));
          }

          -- one step: its page is the last of those that are left, and the others are left then
          pub step_done : (pages_left s.windows n w ≡ pages_left s.windows m rest ++ page ∷ []) × Walking s m rest (k - 1)
          step_done = (step_last, step_on)

-- ---- the whole walk

-- k steps from a state on yield these pages, in the order in which they come
pub data Yields (ws : List Window) : ℕ → Window → ℕ → List ℕ → Type 0 where
  stop : {n : ℕ} {w : Window} → Yields ws n w 0 []
  step : {n m k page : ℕ} {w rest : Window} {ps : List ℕ} → Stepped n w (get_or ws (n - 1) zero_window) page m rest → Yields ws m rest k ps → Yields ws n w (suc k) (page ∷ ps)

yielded : (s : PageSet) → normal s ≡ true → {n k : ℕ} {w : Window} {ps : List ℕ} → Walking s n w k → Yields s.windows n w k ps → ps ≡ reverse (pages_left s.windows n w)
yielded s e h (stop {n} {w}) = sym (ap reverse (walk_end s e n w 0 h refl))
yielded s e h (step {n} {m} {k} {page} {w} {rest} {ps} t y) =
    let d = step_done s e n w (suc k) h (omega arith) (n - 1) refl page m rest t in
    let l : List ℕ = pages_left s.windows m rest in
    let less : suc k - 1 ≡ k = omega arith in
    let left = subst (λ (i : ℕ). Walking s m rest i) less d.1 in
    ap (λ (qs : List ℕ). page ∷ qs) (yielded s e {k = k} left y) ∙ sym (ap reverse d.0 ∙ reverse-append l (page ∷ []))

-- as many steps as a set has pages, from its last window on, yield its pages, the last first
pub all_yielded : (s : PageSet) → normal s ≡ true → (ps : List ℕ) → Yields s.windows s.len zero_window (count (member s) (2 ^ 32)) ps → ps ≡ reverse (pages_in (shown s))
all_yielded s e ps y = yielded s e (walk_start s e (count (member s) (2 ^ 32)) refl) y ∙ ap reverse (walk_all s e)
