-- The snapshot at a place: what is asked of its bytes, by its fields (`asked`), and the value that is read of them (`read_laid`).
use Rattle.std.specs.Prelude.{◌≡◌, ℕ, zero, suc, ◌+◌, ◌-◌, ◌*◌, ◌<◌, ◌≤◌, min, Bool, true, false, ◌&&◌, eqb, leb, List, [], ◌++◌, map, length, drop, replicate}
use mathlib.Core.Path.{refl, sym, ap, ap₂, ◌∙◌}
use mathlib.Core.List.{map-map}
use native.Mathlib.Omega.{arith}
use borrow.Author.Tests.{eq-eqb, ne_eqb, le-leb, lt-leb}
use lib.ListN.{length-map}
use Rattle.octets.specs.Bytes.{be, part, AreBytes, all_zero}
use Rattle.octets.specs.Tab.{tab}
use Rattle.octets.proofs.Places as P
use Rattle.octets.proofs.Tabs.{drop_replicate}
use Rattle.table.specs.Table.{runs}
use Rattle.table.proofs.Rows.{rows_sub, key_at, runs_same, length_runs, tab_runs}
use Rattle.rules.specs.Lists.{all}
use Rattle.rules.specs.Records as rules
use Rattle.layout.specs.Codecs.{Codec, number, listed, pair, reserved, spelled}
use Rattle.layout.specs.Values.{id_bytes, range_of, range_parts, range_bytes, snapshot_of, snapshot_parts, snapshot_bytes}
use Rattle.layout.proofs.SpellLaws as S
use Rattle.layout.proofs.PlainLaws.{Plain, number_plain, raw_plain, pair_plain, viewed_plain}
use Rattle.volume.specs.declared.snapshot.LogRange.{LogRange}
use Rattle.volume.specs.declared.snapshot.Snapshot.{Snapshot}
use Rattle.volume.specs.Snapshots.{laid_range, no_range, laid}

-- ---- a range: any 32 bytes are a range's

range_plain : Plain range_bytes
unfolding range_bytes
range_plain =
    viewed_plain (pair id_bytes (pair (number 8) (number 8))) range_of range_parts (λ x. refl)
    (pair_plain id_bytes (pair (number 8) (number 8)) (raw_plain 16) (pair_plain (number 8) (number 8) (number_plain 8) (number_plain 8)))

ranges_spelled : (n at : ℕ) (b : List ℕ) → AreBytes b → at + n * 32 ≤ length b → all (spelled range_bytes) (runs n 32 at b) ≡ true
unfolding all runs range_bytes
ranges_spelled zero at b ab h = refl
ranges_spelled (suc n) at b ab h =
    ap₂ ◌&&◌ (range_plain.any (part at 32 b) (P.bytes_part at 32 b ab) (P.length_part at 32 b (omega arith))) (ranges_spelled n (at + 32) b ab (omega arith))

-- what the fields of a range spell, laid out
pub range_read : (s : List ℕ) (at : ℕ) → laid_range (range_bytes.read (part at 32 s)) ≡ record { log = part at 16 s; start = record { 0 = be (part (at + 16) 8 s) }; end = record { 0 = be (part (at + 24) 8 s) } }
unfolding range_bytes
range_read s at =
    let b = part at 32 s in
    let start : part 0 8 (part 16 16 b) ≡ part (at + 16) 8 s = P.part_part 16 16 0 8 b (omega arith) ∙ P.part_part at 32 16 8 s (omega arith) in
    let end : part 8 8 (part 16 16 b) ≡ part (at + 24) 8 s = P.part_part 16 16 8 8 b (omega arith) ∙ P.part_part at 32 24 8 s (omega arith) in
    rw (key_at 32 16 at s (omega arith), start, end)

-- ---- the snapshot at a place

abbrev ranges : Codec (List rules.Range)
ranges = listed range_bytes 8

module _ (s : List ℕ) (at : ℕ) (h : at + 262 ≤ length s) where
  -- the path's bytes: the number of ranges, and the places
  abbrev path : List ℕ
  path = part (at + 5) 257 s

  path_there : part 4 257 (part 1 261 (part at 262 s)) ≡ path
  path_there =
      P.part_part 1 261 4 257 (part at 262 s) (omega arith) ∙ P.part_part at 262 5 257 s (omega arith)

  length_path : length path ≡ 257
  length_path = P.length_part (at + 5) 257 s (omega arith)

  number_there : part 0 1 path ≡ part (at + 5) 1 s
  number_there = key_at 257 1 (at + 5) s (omega arith)

  place : (j k : ℕ) → j + k ≤ 256 → part (1 + j) k path ≡ part (at + 6 + j) k s
  place j k l =
      let e : at + 5 + (1 + j) ≡ at + 6 + j = omega arith in
      P.part_part (at + 5) 257 (1 + j) k s (omega arith) ∙ ap (λ i. part i k s) e

  module _ (m : ℕ) (em : m ≡ min (be (part (at + 5) 1 s)) 8) where
    -- the reserved byte is 0, the ranges are at most 8, and what is past them is zero
    asked : AreBytes s → spelled snapshot_bytes (part at 262 s) ≡ eqb (be (part at 1 s)) 0 && (leb (be (part (at + 5) 1 s)) 8 && all_zero (part (at + 6 + m * 32) ((8 - m) * 32) s))
    unfolding snapshot_bytes range_bytes
    asked bs =
        let b = part at 262 s in
        let fields : Codec (ℕ × List rules.Range) = pair (number 4) ranges in
        let lb : length b ≡ 262 = P.length_part at 262 s h in
        let ab : AreBytes b = P.bytes_part at 262 s bs in
        let c = part 1 261 b in
        let lc : length c ≡ 261 = P.length_part 1 261 b (omega arith) in
        let ac : AreBytes c = P.bytes_part 1 261 b ab in
        let small : m ≤ 8 = omega arith in
        let split = rows_sub 32 small in
        let by : AreBytes path = P.bytes_part (at + 5) 257 s bs in
        S.viewed_spelled (reserved fields) snapshot_of snapshot_parts (λ x. refl) b
        ∙ S.reserved_spelled fields b ab lb
        ∙ ap₂ ◌&&◌ (ap (λ l. eqb (be l) 0) (key_at 262 1 at s (omega arith)))
        (S.pair_spelled (number 4) ranges (S.number_steady 4) c lc
        ∙ ap₂ ◌&&◌ (S.number_spelled 4 (part 0 4 c) (P.bytes_part 0 4 c ac) (P.length_part 0 4 c (omega arith))) (ap (spelled ranges) path_there)
        ∙ S.listed_spelled range_bytes 8 range_plain.steady path by length_path (omega arith) m (em ∙ ap (λ l. min (be l) 8) (sym number_there))
        ∙ ap₂ ◌&&◌ (ap (λ l. leb (be l) 8) number_there)
        (ap₂ ◌&&◌ (ranges_spelled m 1 path by (omega (arith, length_path))) (ap all_zero (place (m * 32) ((8 - m) * 32) (omega arith)))))

    -- the same test by test, as the code makes them: x is the reserved byte, n the number of ranges
    module _ (by : AreBytes s) (x : ℕ) (ex : x ≡ be (part at 1 s)) where
      pub form_reserved : (x ≡ 0 → ⊥) → false ≡ spelled snapshot_bytes (part at 262 s)
      form_reserved h = sym (asked by ∙ simp (ne_eqb (be (part at 1 s)) 0 (λ e. h (ex ∙ e))))

      module _ (z : x ≡ 0) (n : ℕ) (en : n ≡ be (part (at + 5) 1 s)) where
        pub form_over : 8 < n → false ≡ spelled snapshot_bytes (part at 262 s)
        form_over h =
            let k : 8 < be (part (at + 5) 1 s) = omega arith in
            sym (asked by ∙ simp (eq-eqb (be (part at 1 s)) 0 (sym ex ∙ z), lt-leb (be (part (at + 5) 1 s)) 8 k))

        pub form_rest : n ≤ 8 → (r : Bool) → r ≡ all_zero (part (at + 6 + m * 32) ((8 - m) * 32) s) → r ≡ spelled snapshot_bytes (part at 262 s)
        form_rest h r e =
            let k : be (part (at + 5) 1 s) ≤ 8 = omega arith in
            e ∙ sym (asked by ∙ simp (eq-eqb (be (part at 1 s)) 0 (sym ex ∙ z), le-leb (be (part (at + 5) 1 s)) 8 k))

    -- the count and the ranges that are read
    read_is : snapshot_bytes.read (part at 262 s) ≡ record { path = map range_bytes.read (runs m 32 (at + 6) s); count = be (part (at + 1) 4 s) }
    unfolding snapshot_bytes range_bytes
    read_is =
        let c = part 1 261 (part at 262 s) in
        let small : m ≤ 8 = omega arith in
        let split = rows_sub 32 small in
        let count : part 0 4 c ≡ part (at + 1) 4 s = P.part_part 1 261 0 4 (part at 262 s) (omega arith) ∙ P.part_part at 262 1 4 s (omega arith) in
        let zero_more : at + 6 + 0 ≡ at + 6 = omega arith in
        let there : part 1 (m * 32) path ≡ part (at + 6) (m * 32) s = place 0 (m * 32) (omega arith) ∙ ap (λ i. part i (m * 32) s) zero_more in
        let listed' : ranges.read (part 4 257 c) ≡ map range_bytes.read (runs m 32 (at + 6) s) =
        ap ranges.read path_there
        ∙ ap (λ k. map range_bytes.read (runs k 32 1 path)) (ap (λ l. min (be l) 8) number_there ∙ sym em)
        ∙ ap (map range_bytes.read) (runs_same 32 m 1 (at + 6) path s (omega arith) there) in
        ap₂ (λ (n : ℕ) (rs : List rules.Range). record { path = rs; count = n }) (ap be count) listed'

    pub read_laid : (rs : List LogRange) (count : ℕ) → rs ≡ map laid_range (map range_bytes.read (runs m 32 (at + 6) s)) ++ replicate (8 - m) no_range → count ≡ be (part (at + 1) 4 s)
        → ◌≡◌ {A = Snapshot} (record { len = m; path = rs; count = record { 0 = count } }) (laid (snapshot_bytes.read (part at 262 s)))
    unfolding laid
    read_laid rs count e f =
        let l : length (map range_bytes.read (runs m 32 (at + 6) s)) ≡ m = length-map (runs m 32 (at + 6) s) range_bytes.read ∙ length_runs 32 m (at + 6) s in
        rw (read_is, l, e, f)

-- ---- the loop that reads a path

-- the range that stands at place i
abbrev pub range_at : List ℕ → ℕ → ℕ → LogRange
range_at s at i = laid_range (range_bytes.read (part (at + i * 32) 32 s))

pub path_read : (s : List ℕ) (at n : ℕ) → tab (range_at s at) n ++ drop n (replicate 8 no_range) ≡ map laid_range (map range_bytes.read (runs n 32 at s)) ++ replicate (8 - n) no_range
path_read s at n =
    ap₂ ◌++◌ (tab_runs (λ b. laid_range (range_bytes.read b)) 32 n at s ∙ sym (map-map laid_range range_bytes.read (runs n 32 at s))) (drop_replicate no_range 8 n)

-- the path of an empty snapshot: 8 places that are zero
pub empty_path : (x : Snapshot) (count : ℕ) → x ≡ laid (record { path = []; count = count }) → x.path ≡ replicate 8 no_range
unfolding laid
empty_path x count e = ap (λ (s : Snapshot). s.path) e
