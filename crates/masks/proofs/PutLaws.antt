-- The set of windows with masks of their own, written: behind those that were written stands what the rest will give. Zeros follow, and the count in front makes them a set's bytes.
use Prim.Native.Nat.{ℕ, zero, suc, ◌+◌, ◌*◌, ◌-◌, ◌≤◌, ◌<◌}
use mathlib.Core.Path.{◌≡◌, refl, sym, ap, ap₂, ◌∙◌}
use mathlib.Core.List.{List, [], ◌∷◌, ◌++◌}
use native.Mathlib.Omega.{arith}
use borrow.Author.Tests.{lt-ltb}
use Rattle.std.proofs.Common.{drop-drop}
use borrow.Rule.Slice.PartMut.{put_mid}
use lib.ListN.{length, get_or, take, drop, replicate, length-drop, length-replicate, replicate-append-replicate}
use Rattle.octets.specs.Bytes.{be, bytes_of, part, put}
use Rattle.octets.specs.Flat.{flat}
use Rattle.octets.proofs.Flats.{length_flat}
use Rattle.octets.proofs.Numbers as N
use Rattle.octets.proofs.Places as P
use Rattle.pageset.specs.declared.Window.{Window}
use Rattle.rules.specs.Records.{Pages}
use Rattle.layout.specs.Values.{window_bytes, set_bytes}
use Rattle.setbytes.specs.Laid.{windows_at}
use Rattle.setbytes.proofs.SetLaws.{length_windows}
use Rattle.setbytes.proofs.WindowLaws.{window_long, window_stored}
use Rattle.masks.specs.Masks.{given}
use Rattle.masks.proofs.MaskLaws.{done_all, one_on, mask_on}

-- ---- what the windows from i on give

abbrev pub given_from : ℕ → ℕ → List ℕ → List ℕ → ℕ → Pages
given_from n at s ms i = given (drop i (windows_at n at s)) (drop i ms)

abbrev pub spelled : Pages → List ℕ
spelled ws = flat window_bytes.spell ws

pub length_spelled : (ws : Pages) → length (spelled ws) ≡ 12 * length ws
length_spelled ws = length_flat 12 window_bytes.spell window_long ws

given_few : (ws : Pages) (ms : List ℕ) → length (given ws ms) ≤ length ws
unfolding given
given_few [] ms = omega arith
given_few (w ∷ ws) [] = omega arith
given_few (w ∷ ws) (zero ∷ ms) = omega (arith, given_few ws ms)
given_few (w ∷ ws) (suc m ∷ ms) = rw (lt-ltb 0 (suc m) (omega arith)) (omega (arith, given_few ws ms))

module _ (n at : ℕ) (s ms : List ℕ) (i : ℕ) where
  pub left_few : length (given_from n at s ms i) ≤ n - i
  left_few = omega (arith, given_few (drop i (windows_at n at s)) (drop i ms), length-drop i (windows_at n at s), length_windows n at s)

  pub left_none : n ≤ i → given_from n at s ms i ≡ []
  unfolding given
  left_none h = rw (done_all n at s i h)

  module _ (h : i < n) (long : i < length ms) where
    pub left_out : get_or ms i 0 ≡ 0 → given_from n at s ms (i + 1) ≡ given_from n at s ms i
    unfolding given
    left_out e = rw (one_on n at s i h, mask_on ms i long, e)

    pub left_in : (get_or ms i 0 ≡ 0 → ⊥) → given_from n at s ms i ≡ record { index = be (part (at + i * 12) 4 s); mask = get_or ms i 0 } ∷ given_from n at s ms (i + 1)
    unfolding given
    left_in e = rw (one_on n at s i h, mask_on ms i long, lt-ltb 0 (get_or ms i 0) (omega arith))

-- ---- stores

pub none_put : (at : ℕ) (l : List ℕ) → put at (spelled []) l ≡ l
unfolding flat
none_put at l = P.put_none at l

-- a window more, by its two stores
pub window_put : (to w : ℕ) (x : Window) (rest : Pages) (l t u : List ℕ) → to + w * 12 + 12 + 12 * length rest ≤ length l → t ≡ put (to + w * 12) (bytes_of 4 x.index) l
    → u ≡ put (to + w * 12 + 4) (bytes_of 8 x.mask) t → put (to + (w + 1) * 12) (spelled rest) u ≡ put (to + w * 12) (spelled (x ∷ rest)) l
unfolding flat
window_put to w x rest l t u h p q =
    let e : to + (w + 1) * 12 ≡ to + w * 12 + 12 = omega arith in
    ap₂ (λ (k : ℕ) (y : List ℕ). put k (spelled rest) y) e (window_stored (to + w * 12) x l t u (omega arith) p q)
    ∙ P.put_next (to + w * 12) 12 (12 * length rest) (window_bytes.spell x) (spelled rest) l (window_long x) (length_spelled rest) h

-- the windows, the zeros behind them, and the count in front
pub set_put_lem : (to : ℕ) (ws : Pages) (n : ℕ) (l t u v : List ℕ) → n ≡ length ws → n ≤ 32 → to + 385 ≤ length l → t ≡ put (to + 1) (spelled ws) l
    → u ≡ put (to + 1 + n * 12) (replicate ((32 - n) * 12) 0) t → v ≡ put to (bytes_of 1 n) u → v ≡ put to (set_bytes.spell ws) l
unfolding set_bytes window_bytes
set_put_lem to ws n l t u v e h room p q r =
    let z : List ℕ = replicate ((32 - n) * 12) 0 in
    let a : length (spelled ws) ≡ n * 12 = omega (arith, length_spelled ws) in
    let b : length z ≡ (32 - n) * 12 = length-replicate ((32 - n) * 12) 0 in
    let c : length (spelled ws ++ z) ≡ 384 = P.length_two (n * 12) ((32 - n) * 12) (spelled ws) z a b ∙ omega arith in
    r
    ∙ ap (put to (bytes_of 1 n)) (P.chain (to + 1) (n * 12) ((32 - n) * 12) (spelled ws) z l t u a b (omega arith) p q)
    ∙ P.put_front to 1 384 (bytes_of 1 n) (spelled ws ++ z) l (N.length_bytes_of 1 n) c (omega arith)
    ∙ ap (λ (k : ℕ). put to (bytes_of 1 k ++ (spelled ws ++ replicate ((32 - k) * 12) 0)) l) e
