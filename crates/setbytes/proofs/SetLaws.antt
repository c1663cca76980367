-- A page set in bytes, as the code meets it. `spelled` asks for a count of at most 32 and for zeros behind the windows; the form asks that the windows rise, that
-- each holds a page, and for no page 0, which only the first window can hold. Assumes nothing.
use Rattle.std.proofs.Common.{◌≡◌, ℕ, zero, suc, ◌+◌, ◌-◌, ◌*◌, ◌/◌, ◌%◌, ◌^◌, ◌<◌, ◌≤◌, min, Bool, true, false, not, ◌&&◌, eqb, leb, ◌⊎◌, List, [], ◌∷◌, ◌++◌, map, length, get_or, drop, replicate, sym, refl, ap, ◌∙◌, ap₂, inl, inr, div-one, arith, take_all, le-leb}
use mathlib.Core.Option.{Option, none, some}
use lib.Count.{count_trailing_zeros}
use lib.ListN.{get_or-append}
use Rattle.octets.specs.Bytes.{be, bytes_of, part, put, AreBytes, all_zero}
use Rattle.octets.specs.Flat.{flat}
use Rattle.octets.proofs.Numbers as N
use Rattle.octets.proofs.Flats as F
use Rattle.octets.proofs.Places as P
use Rattle.table.specs.Table.{runs}
use Rattle.pageset.specs.declared.Window.{Window}
use Rattle.pageset.specs.declared.PageSet.{PageSet}
use Rattle.pageset.specs.Sets.{bit, mask_at, holds, rising, window_forms, normal_form, shown, member, zero_window}
use Rattle.pageset.specs.Counts.{lowest}
use Rattle.pageset.proofs.FormLaws.{and_fst, and_snd, and_left, and_right, Rises, rises_fact, Normal, normal_fact, clash}
use Rattle.pageset.proofs.WindowLaws.{lt_or, mask_nil, mask_same, mask_below}
use Rattle.pageset.proofs.BitLaws.{bit_none}
use Rattle.pageset.proofs.TestLaws.{in_order, order_low, order_high, order_empty, order_step, order_end}
use Rattle.pageset.proofs.WalkLaws.{rises_at}
use Rattle.pageset.proofs.EdgeLaws.{none_lowest, first_small, first_in, first_lowest}
use Rattle.rules.specs.Records.{Pages}
use Rattle.rules.specs.Pages.{first_page}
use Rattle.rules.proofs.PageCounts.{first_page_lem}
use Rattle.layout.specs.Codecs.{Codec, in_form}
use Rattle.layout.specs.Values.{window_bytes, set_bytes}
use Rattle.layout.proofs.HoldLaws.{in_form_lem}
use Rattle.setbytes.specs.Laid.{windows_at, set_laid}
use Rattle.setbytes.proofs.ListLaws.{length_read, read_nth, list_at, list_over, list_not, list_but, spell_array}
use Rattle.setbytes.proofs.WindowLaws.{window_at, window_steady, window_free, window_long, window_zero}
use Rattle.setbytes.proofs.LaidLaws.{says_laid, laid_normal}

-- ---- the windows at a place

pub length_windows : (n at : ℕ) (s : List ℕ) → length (windows_at n at s) ≡ n
unfolding windows_at
length_windows n at s = length_read window_bytes.read 12 n at s

-- window i of them
pub window_nth : (n at : ℕ) (s : List ℕ) (i : ℕ) → i < n → get_or (windows_at n at s) i zero_window ≡ window_bytes.read (part (at + i * 12) 12 s)
unfolding windows_at
window_nth n at s i h = read_nth window_bytes.read 12 n at s zero_window i h

-- ---- windows in order, one by one

module _ (n at : ℕ) (s : List ℕ) (i lo : ℕ) where
  pub ordered_end : n ≤ i → in_order lo (drop i (windows_at n at s)) ≡ true
  ordered_end h = order_end (windows_at n at s) i lo (omega (arith, length_windows n at s))

  -- window i, as the code reads it
  module _ (h : i < n) (w : Window) (e : w ≡ window_bytes.read (part (at + i * 12) 12 s)) where
    here : get_or (windows_at n at s) i zero_window ≡ w
    here = window_nth n at s i h ∙ sym e

    one_more : i < length (windows_at n at s)
    one_more = omega (arith, length_windows n at s)

    pub ordered_low : w.index < lo → in_order lo (drop i (windows_at n at s)) ≡ false
    ordered_low l = order_low (windows_at n at s) i lo one_more (rw here l)

    pub ordered_high : 67108864 ≤ w.index → in_order lo (drop i (windows_at n at s)) ≡ false
    ordered_high l = order_high (windows_at n at s) i lo one_more (rw here l)

    pub ordered_empty : w.mask ≡ 0 → in_order lo (drop i (windows_at n at s)) ≡ false
    ordered_empty l = order_empty (windows_at n at s) i lo one_more (rw here l)

    pub ordered_step : lo ≤ w.index → 0 < w.mask → w.mask < 2 ^ 64 → w.index < 67108864
        → in_order lo (drop i (windows_at n at s)) ≡ in_order (w.index + 1) (drop (i + 1) (windows_at n at s))
    ordered_step p q r t =
        order_step (windows_at n at s) i lo one_more (rw here p) (rw here q) (rw here r) (rw here t)
        ∙ ap (λ (v : Window). in_order (v.index + 1) (drop (i + 1) (windows_at n at s))) here

-- ---- page 0

-- where no window is
pub empty_zero : (at : ℕ) (s : List ℕ) → holds (windows_at 0 at s) 0 ≡ false
unfolding windows_at runs holds
empty_zero at s = ap (λ (m : ℕ). bit m 0) (mask_nil 0) ∙ bit_none 0

-- only the first window can hold it
mask_first : (ws : Pages) → 0 < length ws → (get_or ws 0 zero_window).index ≡ 0 → mask_at ws 0 ≡ (get_or ws 0 zero_window).mask
mask_first [] h e = absurd (omega arith)
mask_first (w ∷ ws) h e = mask_same w ws 0 e

mask_above : (ws : Pages) → Rises 0 ws → 0 < length ws → ((get_or ws 0 zero_window).index ≡ 0 → ⊥) → mask_at ws 0 ≡ 0
unfolding Rises
mask_above [] r h n = absurd (omega arith)
mask_above (w ∷ ws) r h n = mask_below w.index (w ∷ ws) 0 (omega arith, r.1, r.2, r.3, r.4) (omega arith)

module _ (n at : ℕ) (s : List ℕ) (r : in_order 0 (windows_at n at s) ≡ true) (h : 0 < n) where
  abbrev ws : Pages
  ws = windows_at n at s

  there : 0 < length ws
  there = omega (arith, length_windows n at s)

  first : get_or ws 0 zero_window ≡ record { index = be (part at 4 s); mask = be (part (at + 4) 8 s) }
  first =
      let z : at + 0 * 12 ≡ at = omega arith in
      window_nth n at s 0 h ∙ ap (λ (k : ℕ). window_bytes.read (part k 12 s)) z ∙ window_at at s

  pub zero_above : (be (part at 4 s) ≡ 0 → ⊥) → holds ws 0 ≡ false
  unfolding holds
  zero_above n =
      ap (λ (m : ℕ). bit m 0) (mask_above ws (rises_fact 0 ws (and_fst (rising 0 ws) (window_forms ws) r) (and_snd (rising 0 ws) (window_forms ws) r)) there (rw first n))
      ∙ bit_none 0

  pub zero_first : be (part at 4 s) ≡ 0 → holds ws 0 ≡ eqb (be (part (at + 4) 8 s) % 2) 1
  unfolding holds bit
  zero_first e =
      ap (λ (m : ℕ). eqb (m / 2 ^ 0 % 2) 1) (mask_first ws there (ap (λ (w : Window). w.index) first ∙ e) ∙ ap (λ (w : Window). w.mask) first)
      ∙ ap (λ (m : ℕ). eqb (m % 2) 1) (div-one (be (part (at + 4) 8 s)))

-- ---- the form, test by test

-- windows in order are in normal form unless they hold page 0
normal_is : (ws : Pages) → length ws ≤ 32 → normal_form ws ≡ in_order 0 ws && not (holds ws 0)
unfolding normal_form
normal_is ws h = rw (le-leb (length ws) 32 h)

-- the windows that a set spells
pub set_at : (s : List ℕ) (at : ℕ) → at + 385 ≤ length s → (m : ℕ) → m ≡ min (be (part at 1 s)) 32 → set_bytes.read (part at 385 s) ≡ windows_at m (at + 1) s
unfolding set_bytes window_bytes windows_at
set_at s at h m e = list_at window_bytes 32 s at h m e

module _ (s : List ℕ) (ab : AreBytes s) (at : ℕ) (h : at + 385 ≤ length s) where
  pub over_32 : 32 < be (part at 1 s) → in_form set_bytes normal_form (part at 385 s) ≡ false
  unfolding set_bytes window_bytes
  over_32 l = list_over window_bytes 32 window_steady window_free (omega arith) s ab at h normal_form l

  module _ (n : ℕ) (c : n ≡ be (part at 1 s)) (l : n ≤ 32) where
    abbrev ordered : Bool
    ordered = in_order 0 (windows_at n (at + 1) s)

    abbrev no_zero : Bool
    no_zero = not (holds (windows_at n (at + 1) s) 0)

    form_is : normal_form (windows_at n (at + 1) s) ≡ ordered && no_zero
    form_is = normal_is (windows_at n (at + 1) s) (omega (arith, length_windows n (at + 1) s))

    not_normal : normal_form (windows_at n (at + 1) s) ≡ false → in_form set_bytes normal_form (part at 385 s) ≡ false
    unfolding set_bytes window_bytes windows_at
    not_normal e = list_not window_bytes 32 window_steady window_free (omega arith) s ab at h normal_form n c l e

    pub not_ordered : in_order 0 (windows_at n (at + 1) s) ≡ false → in_form set_bytes normal_form (part at 385 s) ≡ false
    not_ordered e = not_normal (form_is ∙ and_left ordered no_zero e)

    pub with_zero : holds (windows_at n (at + 1) s) 0 ≡ true → in_form set_bytes normal_form (part at 385 s) ≡ false
    with_zero e = not_normal (form_is ∙ and_right ordered no_zero (ap not e))

    pub but_clear : in_order 0 (windows_at n (at + 1) s) ≡ true → holds (windows_at n (at + 1) s) 0 ≡ false
        → all_zero (part (at + 1 + n * 12) ((32 - n) * 12) s) ≡ in_form set_bytes normal_form (part at 385 s)
    unfolding set_bytes window_bytes windows_at
    but_clear p q = list_but window_bytes 32 window_steady window_free (omega arith) s ab at h normal_form n c l (form_is ∙ ap₂ (λ (a b : Bool). a && not b) p q)

-- ---- the first page

module _ (ws : Pages) (f : normal_form ws ≡ true) where
  abbrev made : PageSet
  made = set_laid ws

  its : Normal made
  its = normal_fact made (laid_normal ws f)

  lowest_is : lowest (member made) (2 ^ 32) ≡ first_page ws
  lowest_is = ap (λ (vs : Pages). lowest (holds vs) (2 ^ 32)) (says_laid ws) ∙ sym (first_page_lem ws f)

  -- it is not page 0
  pub first_counts : (p : ℕ) → some p ≡ first_page ws → 0 < p
  first_counts p e = go (lt_or 0 (length ws)) p (e ∙ sym lowest_is)
    where
      positive : (p : ℕ) → member made p ≡ true → 0 < p
      positive zero m = clash (member made 0) m its.no_zero
      positive (suc p) m = omega arith

      go : (0 < length ws) ⊎ (length ws ≤ 0) → (p : ℕ) → some p ≡ lowest (member made) (2 ^ 32) → 0 < p
      go (inl h) p e =
          let q : ℕ = (get_or made.windows 0 zero_window).index * 64 + count_trailing_zeros 64 (get_or made.windows 0 zero_window).mask in
          let z : 0 < q = positive q (first_in made its h) in
          let l : some q ≡ lowest (member made) (2 ^ 32) = first_lowest made its h in
          let r : p ≡ q = cc in
          omega arith
      go (inr h) p e = let q = none_lowest made its (omega arith) in absurd (let z : ◌≡◌ {A = ℕ} 0 1 = cc in omega arith)

module _ (s : List ℕ) (at : ℕ) (h : at + 385 ≤ length s) (f : in_form set_bytes normal_form (part at 385 s) ≡ true) where
  abbrev windows : Pages
  windows = set_bytes.read (part at 385 s)

  in_normal : normal_form windows ≡ true
  in_normal = (in_form_lem set_bytes normal_form (part at 385 s) f).1

  how_many : length windows ≡ min (be (part at 1 s)) 32
  how_many = ap length (set_at s at h (min (be (part at 1 s)) 32) refl) ∙ length_windows (min (be (part at 1 s)) 32) (at + 1) s

  pub first_none : be (part at 1 s) ≡ 0 → none ≡ first_page (set_bytes.read (part at 385 s))
  first_none e = none_lowest (made windows in_normal) (its windows in_normal) (omega (arith, how_many)) ∙ lowest_is windows in_normal

  -- the first window, as the code reads it
  module _ (n : be (part at 1 s) ≡ 0 → ⊥) (i m : ℕ) (p : i ≡ be (part (at + 1) 4 s)) (q : m ≡ be (part (at + 5) 8 s)) where
    there_is : 0 < length windows
    there_is = omega (arith, how_many)

    head_is : get_or (made windows in_normal).windows 0 zero_window ≡ record { index = i; mask = m }
    head_is =
        let z : at + 1 + 0 * 12 ≡ at + 1 = omega arith in
        let y : at + 1 + 4 ≡ at + 5 = omega arith in
        get_or-append windows (replicate (32 - length windows) zero_window) zero_window 0 there_is
        ∙ ap (λ (ws : Pages). get_or ws 0 zero_window) (set_at s at h (min (be (part at 1 s)) 32) refl)
        ∙ window_nth (min (be (part at 1 s)) 32) (at + 1) s 0 (omega arith)
        ∙ ap (λ (k : ℕ). window_bytes.read (part k 12 s)) z
        ∙ window_at (at + 1) s
        ∙ ap₂ {C = Window} (λ (j k : ℕ). record { index = j; mask = k }) (sym p) (ap (λ (k : ℕ). be (part k 8 s)) y ∙ sym q)

    -- its index and its lowest bit are within their limits
    pub first_within : (i < 67108864) × (count_trailing_zeros 64 m < 64)
    first_within = (rw head_is at (rises_at (made windows in_normal) (its windows in_normal) 0 there_is), rw head_is at (first_small (made windows in_normal) (its windows in_normal) there_is))

    -- and they make the first page
    pub first_some : some (i * 64 + count_trailing_zeros 64 m) ≡ first_page (set_bytes.read (part at 385 s))
    first_some =
        ap {B = Option ℕ} (λ (w : Window). some (w.index * 64 + count_trailing_zeros 64 w.mask)) (sym head_is) ∙ first_lowest (made windows in_normal) (its windows in_normal) there_is ∙ lowest_is windows in_normal

-- ---- a set written

-- its count, and then its array
pub set_stored : (at : ℕ) (x : PageSet) (s t u : List ℕ) → set_laid (shown x) ≡ x → length x.windows ≡ 32 → at + 385 ≤ length s → t ≡ put at (bytes_of 1 x.len) s
    → u ≡ put (at + 1) (flat window_bytes.spell x.windows) t → u ≡ put at (set_bytes.spell (shown x)) s
unfolding set_bytes window_bytes
set_stored at x s t u e l h p q =
    let n : length (flat window_bytes.spell x.windows) ≡ 384 = F.length_flat 12 window_bytes.spell window_long x.windows ∙ ap (λ (k : ℕ). 12 * k) l in
    P.chain at 1 384 (bytes_of 1 x.len) (flat window_bytes.spell x.windows) s t u (N.length_bytes_of 1 x.len) n (omega arith) p q
    ∙ ap (λ (y : PageSet). put at (bytes_of 1 y.len ++ flat window_bytes.spell y.windows) s) (sym e)
    ∙ ap (λ (l : List ℕ). put at l s) (sym (spell_array window_bytes 32 window_bytes.spell zero_window window_zero (shown x) (shown x) refl))

-- ---- a set read

pub set_made : (s : List ℕ) (at : ℕ) → at + 385 ≤ length s → (n : ℕ) (ws : List Window) → n ≡ min (be (part at 1 s)) 32
    → ws ≡ windows_at n (at + 1) s ++ replicate (32 - n) zero_window → record { len = n; windows = ws } ≡ set_laid (set_bytes.read (part at 385 s))
set_made s at h n ws e f =
    let l = length_windows n (at + 1) s in
    ap₂ {C = PageSet} (λ (k : ℕ) (vs : List Window). record { len = k; windows = vs }) (sym l) (f ∙ ap (λ (k : ℕ). windows_at n (at + 1) s ++ replicate (32 - k) zero_window) (sym l))
    ∙ ap set_laid (sym (set_at s at h n e))
