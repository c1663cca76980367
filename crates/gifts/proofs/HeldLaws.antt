-- The pages that earlier commits hold, and what is left of a set without them: a gift is the pages of its commit's set, up to the page count, that are not held. Masks less the pages of all
-- earlier commits are, bit by bit, the masks less the held pages; a commit whose windows lie apart takes nothing from them, and from masks without a page nothing can be taken.
use Rattle.std.proofs.Common.{Option as Maybe, Some, None}
use Rattle.std.specs.Prelude.{◌≡◌, ℕ, zero, suc, ◌+◌, ◌*◌, ◌/◌, ◌%◌, ◌^◌, ◌<◌, ◌≤◌, Bool, true, false, not, ◌&&◌, ◌||◌, eqb, ltb, leb, List, [], ◌∷◌, length, get_or}
use mathlib.Core.Path.{refl, sym, ap, ap₂, ◌∙◌, subst}
use mathlib.Core.Option.{Option, none, some}
use mathlib.Core.Bool.{and-true}
use native.Mathlib.Omega.{arith}
use native.Mathlib.Decide.{dec_lt}
use borrow.Author.Tests.{leb-true, ltb-true, eqb-true, ne_eqb}
use lib.Bits.{bit_and, and_le_l, xor_lt, xor_zero_l, and_zero_l}
use Rattle.octets.specs.Bytes.{be, part}
use Rattle.pageset.specs.declared.Window.{Window}
use Rattle.pageset.specs.Sets.{bit, mask_at, holds, rising, window_form, window_forms, normal_form, zero_window}
use Rattle.pageset.proofs.BitLaws.{bit_none}
use Rattle.rules.specs.Lists.{is_some}
use Rattle.rules.specs.Records.{Pages, Segment, Commit}
use Rattle.rules.specs.Pages.{truncated, without}
use Rattle.rules.specs.Write.{pages_of}
use Rattle.rules.specs.Walk.{not_taken, gift}
use Rattle.rules.proofs.TableLaws.{and_fst, and_snd, clash}
use Rattle.rules.proofs.PageLaws.{bit_without, form_rising, holds_minus, holds_truncated}
use Rattle.rules.proofs.PageCounts.{truncated_normal}
use Rattle.setbytes.specs.Laid.{windows_at}
use Rattle.setbytes.proofs.SetLaws.{window_nth}
use Rattle.setbytes.proofs.WindowLaws.{window_at}
use Rattle.masks.specs.Masks.{less_masks, no_masks}
use Rattle.masks.proofs.GivenLaws.{less_at, length_less, holds_at_lem}
use Rattle.table.specs.Table.{count_of}
use Rattle.layout.specs.Tables.{commits_ok}
use Rattle.notes.specs.declared.Notes.{Notes}
use Rattle.notes.specs.Known.{Known}
use Rattle.masks.proofs.MaskLaws.{without_none}
use Rattle.rows.specs.Lookups.{nth}
use Rattle.commits.specs.Places.{commit_at}
use Rattle.gifts.specs.Paths.{place_at, Below, commits_at, more, before}
use Rattle.gifts.specs.Held.{Clear, held_by, less_all, Small, free}
use Rattle.gifts.proofs.SetLaws.{row_normal, not_taken_normal}
use Rattle.gifts.proofs.StepLaws.{place_below, before_next, before_all}

-- ---- what is not taken is what is not held

nor_is : (a h u : Bool) → (a && not h) && not u ≡ a && not (h || u)
nor_is true true u = refl
nor_is true false u = refl
nor_is false h u = refl

not_held : (s : Pages) (cs : List Commit) → normal_form s ≡ true → (p : ℕ) → holds (not_taken s cs) p ≡ holds s p && not (held_by cs p)
unfolding held_by
not_held s [] e p = sym (and-true (holds s p))
not_held s (c ∷ cs) e p =
    holds_minus 0 (not_taken s cs) (form_rising (not_taken s cs) (not_taken_normal s cs e)) (pages_of c.segment) p
    ∙ ap (λ (b : Bool). b && not (holds (pages_of c.segment) p)) (not_held s cs e p)
    ∙ nor_is (holds s p) (held_by cs p) (holds (pages_of c.segment) p)

module _ (count : ℕ) (cs : List Commit) (c : Commit) (e : normal_form (pages_of c.segment) ≡ true) where
  pub gift_normal : normal_form (gift count cs c) ≡ true
  gift_normal = not_taken_normal (truncated (pages_of c.segment) count) cs (truncated_normal (pages_of c.segment) count e)

  -- THE PAGES OF A GIFT
  pub gift_holds : (p : ℕ) → holds (gift count cs c) p ≡ free (held_by cs) count (pages_of c.segment) p
  gift_holds p =
      not_held (truncated (pages_of c.segment) count) cs (truncated_normal (pages_of c.segment) count e) p
      ∙ ap (λ (b : Bool). b && not (held_by cs p)) (holds_truncated 0 (pages_of c.segment) (form_rising (pages_of c.segment) e) count p)

-- ---- masks without the pages of a commit

none_without : (k : ℕ) → without 0 k ≡ 0
none_without k = rw (and_zero_l k) (xor_zero_l 0)

without_small : (m k : ℕ) → m < 2 ^ 64 → without m k < 2 ^ 64
without_small m k h = xor_lt 64 m (bit_and m k) h (omega (arith, and_le_l m k))

-- a set that has no window of theirs takes nothing
less_none : (ws u : Pages) (ms : List ℕ) → ((i : ℕ) → i < length ws → mask_at u (get_or ws i zero_window).index ≡ 0) → length ws ≤ length ms → less_masks ws u ms ≡ ms
unfolding less_masks
less_none [] u ms h l = refl
less_none (w ∷ ws) u [] h l = refl
less_none (w ∷ ws) u (m ∷ ms) h l =
    ap₂ (λ (x : ℕ) (xs : List ℕ). x ∷ xs) (ap (without m) (h 0 (omega arith)) ∙ without_none m) (less_none ws u ms (λ i k. h (suc i) (omega arith)) (omega arith))

-- nothing is taken from nothing
pub less_empty : (ws u : Pages) (ms : List ℕ) → no_masks (length ws) ms ≡ true → less_masks ws u ms ≡ ms
unfolding less_masks no_masks
less_empty [] u ms e = refl
less_empty (w ∷ ws) u [] e = refl
less_empty (w ∷ ws) u (m ∷ ms) e =
    let z = eqb-true m 0 (and_fst (eqb m 0) (no_masks (length ws) ms) e) in
    ap₂ (λ (x : ℕ) (xs : List ℕ). x ∷ xs) (ap (λ (x : ℕ). without x (mask_at u w.index)) z ∙ none_without (mask_at u w.index) ∙ sym z) (less_empty ws u ms (and_snd (eqb m 0) (no_masks (length ws) ms) e))

-- a segment that is missing takes nothing
pub less_missing : (ws : Pages) (o : Option Segment) (ms : List ℕ) → is_some o ≡ false → length ws ≤ length ms → less_masks ws (pages_of o) ms ≡ ms
unfolding mask_at
less_missing ws none ms e l = less_none ws [] ms (λ i h. refl) l
less_missing ws (some s) ms e l = absurd (clash refl e)

-- windows that rise lie from the first to the last
from_first : (lo : ℕ) (ws : Pages) (i : ℕ) → rising lo ws ≡ true → i < length ws → lo ≤ (get_or ws i zero_window).index
unfolding rising
from_first lo [] i e h = absurd (omega arith)
from_first lo (w ∷ ws) zero e h = leb-true lo w.index (and_fst (leb lo w.index) (rising (w.index + 1) ws) e)
from_first lo (w ∷ ws) (suc i) e h =
    let l = leb-true lo w.index (and_fst (leb lo w.index) (rising (w.index + 1) ws) e) in
    let r = from_first (w.index + 1) ws i (and_snd (leb lo w.index) (rising (w.index + 1) ws) e) (omega arith) in
    omega arith

pub in_order_lem : (lo : ℕ) (ws : Pages) (i j : ℕ) → rising lo ws ≡ true → i < j → j < length ws → (get_or ws i zero_window).index < (get_or ws j zero_window).index
unfolding rising
in_order_lem lo [] i j e h l = absurd (omega arith)
in_order_lem lo (w ∷ ws) i zero e h l = absurd (omega arith)
in_order_lem lo (w ∷ ws) zero (suc j) e h l =
    let r = from_first (w.index + 1) ws j (and_snd (leb lo w.index) (rising (w.index + 1) ws) e) (omega arith) in omega arith
in_order_lem lo (w ∷ ws) (suc i) (suc j) e h l = in_order_lem (w.index + 1) ws i j (and_snd (leb lo w.index) (rising (w.index + 1) ws) e) (omega arith) (omega arith)

-- the index of a window that stands in bytes
pub index_at : (n at : ℕ) (t : List ℕ) (i to : ℕ) → i < n → to ≡ at + i * 12 → (get_or (windows_at n at t) i zero_window).index ≡ be (part to 4 t)
index_at n at t i to h e = ap (λ (w : Window). w.index) (window_nth n at t i h ∙ window_at (at + i * 12) t) ∙ ap (λ (x : ℕ). be (part x 4 t)) (sym e)

-- a set that lies apart takes nothing
pub less_apart : (ws u : Pages) (ms : List ℕ) (n lo hi : ℕ) → rising 0 ws ≡ true → length ws ≤ length ms → length ws ≡ suc n → lo ≡ (get_or ws 0 zero_window).index → hi ≡ (get_or ws n zero_window).index
    → Clear lo hi u → less_masks ws u ms ≡ ms
less_apart ws u ms n lo hi e l k f g c = less_none ws u ms (λ i h. c (get_or ws i zero_window).index (first i h (dec_lt 0 i)) (last i h (dec_lt i n))) l
  where
    first : (i : ℕ) → i < length ws → Dec (0 < i) → lo ≤ (get_or ws i zero_window).index
    first i h (yes p) = omega (arith, in_order_lem 0 ws 0 i e p h)
    first i h (no p) = let z : i ≡ 0 = omega arith in omega (arith, ap (λ (x : ℕ). (get_or ws x zero_window).index) z)

    last : (i : ℕ) → i < length ws → Dec (i < n) → (get_or ws i zero_window).index ≤ hi
    last i h (yes p) = omega (arith, in_order_lem 0 ws i n e p (omega arith))
    last i h (no p) = let z : i ≡ n = omega arith in omega (arith, ap (λ (x : ℕ). (get_or ws x zero_window).index) z)

-- ---- masks without the pages of all earlier commits

module _ (ws : Pages) where
  pub length_all : (cs : List Commit) (ms : List ℕ) → length ws ≤ length ms → length (less_all ws cs ms) ≡ length ms
  unfolding less_all
  length_all [] ms l = refl
  length_all (c ∷ cs) ms l = let r = length_all cs ms l in length_less ws (pages_of c.segment) (less_all ws cs ms) (omega arith) ∙ r

  pub all_bit : (cs : List Commit) (ms : List ℕ) (i : ℕ) → i < length ws → length ws ≤ length ms → (b : ℕ) → b < 64
      → bit (get_or (less_all ws cs ms) i 0) b ≡ bit (get_or ms i 0) b && not (held_by cs ((get_or ws i zero_window).index * 64 + b))
  unfolding less_all held_by
  all_bit [] ms i h l b k = sym (and-true (bit (get_or ms i 0) b))
  all_bit (c ∷ cs) ms i h l b k =
      let q = (get_or ws i zero_window).index in
      let u = pages_of c.segment in
      ap (λ (m : ℕ). bit m b) (less_at ws u (less_all ws cs ms) i h (omega (arith, length_all cs ms l)))
      ∙ bit_without (get_or (less_all ws cs ms) i 0) (mask_at u q) b
      ∙ ap₂ (λ (x y : Bool). x && not y) (all_bit cs ms i h l b k) (sym (holds_at_lem u q b k))
      ∙ nor_is (bit (get_or ms i 0) b) (held_by cs (q * 64 + b)) (holds u (q * 64 + b))

  pub all_small : (cs : List Commit) (ms : List ℕ) → length ws ≤ length ms → Small ws ms → Small ws (less_all ws cs ms)
  unfolding less_all
  all_small [] ms l s = s
  all_small (c ∷ cs) ms l s = λ i h. let e = less_at ws (pages_of c.segment) (less_all ws cs ms) i h (omega (arith, length_all cs ms l)) in omega (arith, without_small (get_or (less_all ws cs ms) i 0) (mask_at (pages_of c.segment) (get_or ws i zero_window).index) (all_small cs ms l s i h))

  -- ---- commit by commit

  module _ (t ps : List ℕ) (ms : List ℕ) where
    pub all_next : (j i : ℕ) → place_at j ps ≡ Some i → less_all ws (before (j + 1) (commits_at t ps)) ms ≡ less_masks ws (pages_of (commit_at t i).segment) (less_all ws (before j (commits_at t ps)) ms)
    unfolding less_all
    all_next j i e = ap (λ (cs : List Commit). less_all ws cs ms) (before_next t ps j i e)

    pub all_end : (j k : ℕ) → place_at j ps ≡ None → j ≤ k → less_all ws (before j (commits_at t ps)) ms ≡ less_all ws (before k (commits_at t ps)) ms
    all_end j k e h = ap (λ (cs : List Commit). less_all ws cs ms) (sym (before_all t ps j k e h))

    pub all_empty : (j k : ℕ) → no_masks (length ws) (less_all ws (before j (commits_at t ps)) ms) ≡ true → j ≤ k → less_all ws (before j (commits_at t ps)) ms ≡ less_all ws (before k (commits_at t ps)) ms
    unfolding less_all
    all_empty j zero e h = let z : j ≡ 0 = omega arith in ap (λ (n : ℕ). less_all ws (before n (commits_at t ps)) ms) z
    all_empty j (suc k) e h = go (dec_lt k j) (all_empty j k e)
      where
        on : (o : Option Commit) → less_all ws (before j (commits_at t ps)) ms ≡ less_all ws (before k (commits_at t ps)) ms → less_all ws (before j (commits_at t ps)) ms ≡ less_all ws (more o (before k (commits_at t ps))) ms
        on none r = r
        on (some c) r = r ∙ sym (less_empty ws (pages_of c.segment) (less_all ws (before k (commits_at t ps)) ms) (ap (no_masks (length ws)) (sym r) ∙ e))

        go : Dec (k < j) → (j ≤ k → less_all ws (before j (commits_at t ps)) ms ≡ less_all ws (before k (commits_at t ps)) ms) → less_all ws (before j (commits_at t ps)) ms ≡ less_all ws (before (suc k) (commits_at t ps)) ms
        go (yes l) r = let z : j ≡ suc k = omega arith in ap (λ (n : ℕ). less_all ws (before n (commits_at t ps)) ms) z
        go (no l) r = on (nth k (commits_at t ps)) (r (omega arith))

-- ---- no page past the last is held

past_last : (q : ℕ) (s : Pages) → window_forms s ≡ true → 67108864 ≤ q → mask_at s q ≡ 0
unfolding window_forms mask_at
past_last q [] e h = refl
past_last q (w ∷ s) e h =
    let l = ltb-true w.index 67108864 (and_snd (ltb 0 w.mask && ltb w.mask (2 ^ 64)) (ltb w.index (2 ^ 26)) (and_fst (window_form w) (window_forms s) e)) in
    rw (ne_eqb w.index q (λ z. omega arith)) (past_last q s (and_snd (window_form w) (window_forms s) e) h)

none_past : (s : Pages) (p : ℕ) → normal_form s ≡ true → 4294967296 ≤ p → holds s p ≡ false
unfolding holds normal_form
none_past s p e h = let f : window_forms s ≡ true = search (and_fst, and_snd) in rw (past_last (p / 64) s f (omega arith)) (bit_none (p % 64))

pub held_past : (t ps : List ℕ) (ok : commits_ok t ≡ true) → Below (count_of t) ps → (k p : ℕ) → 4294967296 ≤ p → held_by (before k (commits_at t ps)) p ≡ false
unfolding held_by
held_past t ps ok inside zero p h = refl
held_past t ps ok inside (suc k) p h = go (place_at k ps) refl (held_past t ps ok inside k p h)
  where
    z : suc k ≡ k + 1
    z = omega arith

    go : (x : Maybe ℕ) → place_at k ps ≡ x → held_by (before k (commits_at t ps)) p ≡ false → held_by (before (suc k) (commits_at t ps)) p ≡ false
    go None e r = ap (λ (cs : List Commit). held_by cs p) (before_all t ps k (suc k) e (omega arith)) ∙ r
    go (Some i) e r =
        ap (λ (n : ℕ). held_by (before n (commits_at t ps)) p) z
        ∙ ap (λ (cs : List Commit). held_by cs p) (before_next t ps k i e)
        ∙ ap₂ (λ (x y : Bool). x || y) r (none_past (pages_of (commit_at t i).segment) p (row_normal t ok i (place_below (count_of t) k i ps inside e)) h)

-- notes of one commit more
pub known_next : (t ps : List ℕ) (k i : ℕ) → place_at k ps ≡ Some i → (n : Notes) → Known (held_by (commit_at t i ∷ before k (commits_at t ps))) n → Known (held_by (before (k + 1) (commits_at t ps))) n
known_next t ps k i p n h = subst (λ (cs : List Commit). Known (held_by cs) n) (sym (before_next t ps k i p)) h
