-- A window in bytes: its two numbers, side by side. Any 12 bytes are a window's. Assumes nothing.
use Rattle.std.proofs.Common.{◌≡◌, ℕ, ◌+◌, ◌*◌, ◌^◌, ◌<◌, ◌≤◌, true, ◌&&◌, List, ◌++◌, length, replicate, sym, refl, ap, ◌∙◌, ap₂, arith}
use Rattle.octets.specs.Bytes.{be, bytes_of, part, put, AreBytes}
use Rattle.octets.proofs.Numbers as N
use Rattle.octets.proofs.Places as P
use Rattle.pageset.specs.declared.Window.{Window}
use Rattle.pageset.specs.Sets.{zero_window}
use Rattle.rules.specs.Records.{Pages}
use Rattle.layout.specs.Codecs.{Codec, number, pair, spelled}
use Rattle.layout.specs.Values.{window_bytes, window_of, window_parts, set_bytes}
use Rattle.layout.proofs.SpellLaws.{Steady, number_steady, pair_steady, viewed_steady, listed_steady, number_spelled, pair_spelled, viewed_spelled}
use Rattle.layout.proofs.PlaceLaws.{pair_read}
use Rattle.setbytes.proofs.ListLaws.{Free, list_long}

-- any bytes are those of two numbers
pub two_steady : (j k : ℕ) → Steady (pair (number j) (number k))
two_steady j k = pair_steady (number j) (number k) (number_steady j) (number_steady k)

pub two_free : (j k : ℕ) → Free (pair (number j) (number k))
two_free j k b ab e =
    pair_spelled (number j) (number k) (number_steady j) b e
    ∙ ap₂ ◌&&◌ (number_spelled j (part 0 j b) (P.bytes_part 0 j b ab) (P.length_part 0 j b (omega arith)))
    (number_spelled k (part j k b) (P.bytes_part j k b ab) (P.length_part j k b (omega arith)))

-- ---- a window

pub window_at : (at : ℕ) (s : List ℕ) → window_bytes.read (part at 12 s) ≡ record { index = be (part at 4 s); mask = be (part (at + 4) 8 s) }
unfolding window_bytes
window_at at s = ap window_of (pair_read s at (number 4) (number 8) (at + 4) refl)

pub window_steady : Steady window_bytes
unfolding window_bytes
window_steady = viewed_steady (pair (number 4) (number 8)) window_of window_parts (λ x. refl) (two_steady 4 8)

pub window_free : Free window_bytes
unfolding window_bytes
window_free b ab e = viewed_spelled (pair (number 4) (number 8)) window_of window_parts (λ x. refl) b ∙ two_free 4 8 b ab e

pub window_long : (w : Window) → length (window_bytes.spell w) ≡ 12
unfolding window_bytes
window_long w = P.length_two 4 8 (bytes_of 4 w.index) (bytes_of 8 w.mask) (N.length_bytes_of 4 w.index) (N.length_bytes_of 8 w.mask)

pub window_zero : window_bytes.spell zero_window ≡ replicate 12 0
unfolding window_bytes bytes_of
window_zero = refl

-- its two stores
pub window_stored : (at : ℕ) (w : Window) (s t u : List ℕ) → at + 12 ≤ length s → t ≡ put at (bytes_of 4 w.index) s → u ≡ put (at + 4) (bytes_of 8 w.mask) t
    → u ≡ put at (window_bytes.spell w) s
unfolding window_bytes
window_stored at w s t u h p q = P.chain at 4 8 (bytes_of 4 w.index) (bytes_of 8 w.mask) s t u (N.length_bytes_of 4 w.index) (N.length_bytes_of 8 w.mask) (omega arith) p q

-- ---- a page set

pub set_steady : Steady set_bytes
unfolding set_bytes
set_steady = listed_steady window_bytes 32 window_steady

pub set_long : (ws : Pages) → length ws ≤ 32 → length (set_bytes.spell ws) ≡ 385
unfolding set_bytes window_bytes
set_long ws h = list_long window_bytes 32 window_long ws h
