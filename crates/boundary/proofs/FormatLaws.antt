-- The sizes of records and of entries as numbers, each found at its table or list, and 0 past the last; and the bytes of a table, case by case. Assumes nothing.
use Rattle.std.proofs.Common.{◌≡◌, ℕ, zero, suc, ◌+◌, ◌*◌, ◌<◌, ◌≤◌, List, [], ◌∷◌, length, get_or, sym, refl, ap, ◌∙◌, mul-le-mul_right, arith}
use lib.ListN.{get_or-eq_default}
use Rattle.octets.specs.Guards.{if_eq_of, if_ne_of, if_lt, if_ge}
use Rattle.layout.specs.Values.{window_bytes, set_bytes, frame_bytes, frames_bytes, segment_bytes, part_bytes}
use Rattle.layout.specs.Records.{sync_bytes, pending_bytes, volume_bytes, tag_bytes, log_lsn_bytes, log_page_lsn_bytes, sid_page_bytes, commit_bytes, checkpoint_bytes, entry_bytes, present_bytes}
use Rattle.walkcalls.specs.Items.{item_bytes}
use Rattle.boundary.specs.Formats.{record_sizes, record_size, entry_sizes, entry_size, table_bytes}

abbrev sizes : List ℕ
sizes = 117 ∷ 50 ∷ 722 ∷ 25 ∷ 29 ∷ 21 ∷ []

are_sizes : sizes ≡ record_sizes
unfolding record_sizes volume_bytes sync_bytes pending_bytes tag_bytes commit_bytes log_lsn_bytes segment_bytes set_bytes window_bytes frames_bytes frame_bytes checkpoint_bytes entry_bytes log_page_lsn_bytes present_bytes sid_page_bytes
are_sizes = refl

abbrev listed : List ℕ
listed = 117 ∷ 50 ∷ 8 ∷ 722 ∷ 417 ∷ 1003 ∷ 417 ∷ []

are_listed : listed ≡ entry_sizes
unfolding entry_sizes volume_bytes sync_bytes pending_bytes tag_bytes commit_bytes log_lsn_bytes segment_bytes set_bytes window_bytes frames_bytes frame_bytes part_bytes item_bytes
are_listed = refl

-- ---- a size at its place, and past the last

at_place : (l said : List ℕ) → l ≡ said → (n k : ℕ) → n ≡ k → get_or l k 0 ≡ get_or said n 0
at_place l said same n k e = ap (λ (x : List ℕ). get_or x k 0) same ∙ ap (λ (i : ℕ). get_or said i 0) (sym e)

past_last : (l said : List ℕ) → l ≡ said → (n : ℕ) → length l ≤ n → 0 ≡ get_or said n 0
past_last l said same n h = sym (get_or-eq_default l 0 h) ∙ ap (λ (x : List ℕ). get_or x n 0) same

module _ (n : ℕ) where
  pub size_at : (k : ℕ) → n ≡ k → get_or sizes k 0 ≡ record_size n
  unfolding record_size
  size_at k e = at_place sizes record_sizes are_sizes n k e

  pub size_past : 6 ≤ n → 0 ≡ record_size n
  unfolding record_size
  size_past h = past_last sizes record_sizes are_sizes n h

  pub entry_at : (k : ℕ) → n ≡ k → get_or listed k 0 ≡ entry_size n
  unfolding entry_size
  entry_at k e = at_place listed entry_sizes are_listed n k e

  -- above five, and not six
  pub entry_past : 6 ≤ n → (n ≡ 6 → ⊥) → 0 ≡ entry_size n
  unfolding entry_size
  entry_past h q = past_last listed entry_sizes are_listed n (omega arith)

  pub above_five : (n ≡ 0 → ⊥) → (n ≡ 1 → ⊥) → (n ≡ 2 → ⊥) → (n ≡ 3 → ⊥) → (n ≡ 4 → ⊥) → (n ≡ 5 → ⊥) → 6 ≤ n
  above_five a b c d e f = omega arith

-- ---- the bytes of a table

most : (n : ℕ) → get_or sizes n 0 ≤ 722
most zero = omega arith
most (suc zero) = omega arith
most (suc (suc zero)) = omega arith
most (suc (suc (suc zero))) = omega arith
most (suc (suc (suc (suc zero)))) = omega arith
most (suc (suc (suc (suc (suc zero))))) = omega arith
most (suc (suc (suc (suc (suc (suc n)))))) = omega arith

module _ (table n s : ℕ) (same : s ≡ record_size table) where
  size_most : s ≤ 722
  unfolding record_size
  size_most = rw (same ∙ sym (at_place sizes record_sizes are_sizes table table refl)) (most table)

  pub bytes_fit : n ≤ 65535 → n * s ≤ 47316270
  bytes_fit h = omega (arith, mul-le-mul_right s h, size_most)

  pub no_table : s ≡ 0 → 0 ≡ table_bytes table n
  unfolding table_bytes
  no_table h = if_eq_of _ _ _ _ 0 s same h refl

  pub too_many : (s ≡ 0 → ⊥) → 65535 < n → 0 ≡ table_bytes table n
  unfolding table_bytes
  too_many h q = if_ne_of _ _ _ _ 0 s same h (if_lt _ _ _ 65535 n q refl)

  pub with_room : (s ≡ 0 → ⊥) → n ≤ 65535 → 2 + n * s ≡ table_bytes table n
  unfolding table_bytes
  with_room h q = if_ne_of _ _ _ _ 0 s same h (if_ge _ _ _ 65535 n q (ap (λ (k : ℕ). 2 + n * k) same))
