-- Bytes of a line that are kept.
use Rattle.std.proofs.Common.{◌≡◌, ℕ, ◌+◌, ◌-◌, ◌≤◌, min, List, ◌++◌, length, take, drop, sym, ap, ◌∙◌, append_assoc, arith, length-append, length-take, take_all, take_at}
use lib.Seq.{take-append-add}
use Rattle.octets.specs.Bytes.{put}

-- the first bytes, after a store at their end
stored : (n : ℕ) (xs s : List ℕ) → n + length xs ≤ length s → take (n + length xs) (put n xs s) ≡ take n s ++ xs
unfolding put
stored n xs s h =
    let l : length (take n s ++ xs) ≡ n + length xs = length-append (take n s) xs ∙ ap (λ (k : ℕ). k + length xs) (length-take n s) ∙ omega arith in
    rw (← append_assoc (take n s) xs (drop (n + length xs) s)) (take_at (take n s ++ xs) (drop (n + length xs) s) (n + length xs) l)

-- all of a piece, where there is room for it
pub kept_all : (n : ℕ) (xs s t : List ℕ) → n + length xs ≤ 257 → t ≡ put n xs s → t ≡ put n (take (257 - n) xs) s
kept_all n xs s t h e = e ∙ ap (λ (ys : List ℕ). put n ys s) (sym (take_all (257 - n) xs (omega arith)))

-- as much of it as there is room
pub kept_some : (n k : ℕ) (xs s t : List ℕ) → k ≡ 257 - n → t ≡ put n (take k xs) s → t ≡ put n (take (257 - n) xs) s
kept_some n k xs s t z e = e ∙ ap (λ (j : ℕ). put n (take j xs) s) z

-- so the bytes kept are the first 257 of those kept before and the piece
pub kept_line : (n r : ℕ) (xs s t : List ℕ) → length s ≡ 257 → n ≤ 257 → t ≡ put n (take (257 - n) xs) s → r ≡ min 257 (n + length xs) → take r t ≡ take 257 (take n s ++ xs)
kept_line n r xs s t l m e z =
    let k : length (take (257 - n) xs) ≡ min (257 - n) (length xs) = length-take (257 - n) xs in
    let w : r ≡ n + length (take (257 - n) xs) = omega arith in
    let f : length (take n s) ≡ n = length-take n s ∙ omega arith in
    let q : 257 ≡ length (take n s) + (257 - n) = omega arith in
    ap (take r) e
    ∙ ap (λ (j : ℕ). take j (put n (take (257 - n) xs) s)) w
    ∙ stored n (take (257 - n) xs) s (omega arith)
    ∙ sym (ap (λ (j : ℕ). take j (take n s ++ xs)) q ∙ take-append-add (take n s) xs (257 - n))
