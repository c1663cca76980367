-- The laws of `part` and `put`: lengths, a part of a part, a part of what was put, several puts, and the number at a place.
use mathlib.Core.Path.{◌≡◌, refl, sym, ap, ap₂, ◌∙◌, subst}
use mathlib.Core.Bool.{Bool, true, false, cond}
use mathlib.Core.List.{List, [], ◌∷◌, ◌++◌, append_assoc, append-nil}
use Prim.Native.Nat.{ℕ, zero, suc, ◌+◌, ◌-◌, ◌*◌, ◌/◌, ◌%◌, ◌^◌, ◌≤◌, ◌<◌}
use native.Mathlib.Nat.{le_refl, add_assoc, add-zero, zero-add, div-one, mod-eq_of_lt}
use native.Mathlib.Numerals.{add-one}
use native.Mathlib.Omega.{arith}
use native.Mathlib.Decide.{dec_lt}
use lib.ListN.{length, get_or, set, take, drop, replicate, length-append, length-take, length-drop, length-replicate, drop_of_length-le, take-append-drop, get_or-eq_default, get_or-append}
use lib.Seq.{length-take-le, take-length, get_or-drop, drop-cons, take_at, drop_at, take-append-le, drop-append-le, take-take, drop-drop, drop-length, get_or-take, take-add, take_all, set_split}
use lib.Dec.{eqb}
use borrow.Author.Tests.{eqb-true}
use Rattle.octets.specs.Bytes.{be, bytes_of, part, put, AreBytes, all_zero}
use Rattle.octets.proofs.Numbers as N
use borrow.Rule.Slice.PartMut.{put_mid}
use lib.Seq.{paste}

-- ---- lengths and elements

pub length_part : (at k : ℕ) (xs : List ℕ) → at + k ≤ length xs → length (part at k xs) ≡ k
unfolding part
length_part at k xs h = simp (length-take, length-drop) (omega arith)

pub length_put : (at : ℕ) (ys xs : List ℕ) → at + length ys ≤ length xs → length (put at ys xs) ≡ length xs
unfolding put
length_put at ys xs h = simp (length-append, length-take, length-drop) (omega arith)

pub length_two : (k n : ℕ) (xs ys : List ℕ) → length xs ≡ k → length ys ≡ n → length (xs ++ ys) ≡ k + n
length_two k n xs ys e f = length-append xs ys ∙ (cc)

pub bytes_part : (at k : ℕ) (xs : List ℕ) → AreBytes xs → AreBytes (part at k xs)
unfolding part
bytes_part at k xs b i = go (dec_lt i k)
  where
    go : Dec (i < k) → get_or (take k (drop at xs)) i 0 < 256
    go (yes h) = rw (get_or-take k (drop at xs) i 0 h, get_or-drop) (b (at + i))
    go (no n) =
        let l : length (take k (drop at xs)) ≤ i = simp length-take (omega arith) in
        rw get_or-eq_default (omega arith)

-- ---- parts

-- the first k elements
pub part_front : (k : ℕ) (xs : List ℕ) → part 0 k xs ≡ take k xs
unfolding part
part_front k xs = refl

pub part_none : (at : ℕ) (xs : List ℕ) → part at 0 xs ≡ []
unfolding part
part_none at xs = refl

pub part_all : (xs : List ℕ) → part 0 (length xs) xs ≡ xs
unfolding part
part_all xs = take-length xs

-- the same by the length that is known
pub part_whole : (k : ℕ) (xs : List ℕ) → length xs ≡ k → part 0 k xs ≡ xs
part_whole k xs e = ap (λ (n : ℕ). part 0 n xs) (sym e) ∙ part_all xs

-- one part after another
pub part_add : (at k n : ℕ) (xs : List ℕ) → part at (k + n) xs ≡ part at k xs ++ part (at + k) n xs
unfolding part
part_add at k n xs = take-add k n (drop at xs) ∙ ap (λ (r : List ℕ). take k (drop at xs) ++ take n r) (drop-drop k at xs)

part_one : (at : ℕ) (xs : List ℕ) → at < length xs → part at 1 xs ≡ get_or xs at 0 ∷ []
unfolding part
part_one at xs h = ap (take 1) (drop-cons xs at 0 h)

-- a part's last element
pub part_more : (at k : ℕ) (xs : List ℕ) → at + k < length xs → part at (k + 1) xs ≡ part at k xs ++ (get_or xs (at + k) 0 ∷ [])
part_more at k xs h = part_add at k 1 xs ∙ ap (λ (r : List ℕ). part at k xs ++ r) (part_one (at + k) xs h)

-- a part's first element
pub part_less : (at k : ℕ) (xs : List ℕ) → at < length xs → part at (suc k) xs ≡ get_or xs at 0 ∷ part (at + 1) k xs
unfolding part
part_less at k xs h = ap (take (suc k)) (drop-cons xs at 0 h) ∙ ap (λ (n : ℕ). get_or xs at 0 ∷ take k (drop n xs)) (sym (add-one at))

within : (k j n : ℕ) (xs : List ℕ) → j + k ≤ n → take k (drop j (take n xs)) ≡ take k (drop j xs)
within k zero n xs h = take-take k n xs (omega arith)
within k (suc j) zero xs h = absurd (omega arith)
within k (suc j) (suc n) [] h = refl
within k (suc j) (suc n) (x ∷ xs) h = within k j n xs (omega arith)

-- a part of a part: a field of a record is a field of the bytes that hold it
pub part_part : (at n j k : ℕ) (xs : List ℕ) → j + k ≤ n → part j k (part at n xs) ≡ part (at + j) k xs
unfolding part
part_part at n j k xs h = within k j n (drop at xs) h ∙ ap (take k) (drop-drop j at xs)

-- what the code's `&s[a..b]` holds
pub part_slice : (a b k : ℕ) (xs : List ℕ) → b ≡ a + k → take (b - a) (drop a xs) ≡ part a k xs
unfolding part
part_slice a b k xs e =
    let f : b - a ≡ k = omega arith in
    rw f

-- a record's bytes are its fields' bytes
pub part_split : (at k n : ℕ) (xs ys s : List ℕ) → length xs ≡ k → length ys ≡ n → part at (k + n) s ≡ xs ++ ys → (part at k s ≡ xs) × (part (at + k) n s ≡ ys)
unfolding part
part_split at k n xs ys s e f h =
    let d = drop at s in
    let i : k ≤ k + n = omega arith in
    let g : drop k (take (k + n) d) ≡ ys = ap (drop k) h ∙ drop_at xs ys k e in (
      sym (take-take k (k + n) d i) ∙ ap (take k) h ∙ take_at xs ys k e,
      ap (take n) (sym (drop-drop k at s)) ∙ sym (within n k (k + n) d (le_refl _)) ∙ ap (take n) g ∙ take_all n ys (omega arith),
    )

-- ---- a part of what was put

-- inside it
part_put_in : (at j k : ℕ) (ys xs : List ℕ) → at + length ys ≤ length xs → j + k ≤ length ys → part (at + j) k (put at ys xs) ≡ part j k ys
unfolding part put
part_put_in at j k ys xs h i =
    let r : List ℕ = drop (at + length ys) xs in
    let le : j ≤ length ys = omega arith in
    let lt : k ≤ length (drop j ys) = simp length-drop (omega arith) in
    ap (take k) (sym (drop-drop j at (take at xs ++ (ys ++ r))) ∙ ap (drop j) (drop_at (take at xs) (ys ++ r) at (length-take-le at xs (omega arith))) ∙ drop-append-le j ys r le)
    ∙ take-append-le k (drop j ys) r lt

-- at the same place
pub part_put_same : (at k : ℕ) (ys xs : List ℕ) → length ys ≡ k → at + k ≤ length xs → part at k (put at ys xs) ≡ ys
part_put_same at k ys xs e h =
    let l : at + length ys ≤ length xs = omega arith in
    let i : 0 + length ys ≤ length ys = omega arith in
    ap (λ (n : ℕ). part at n (put at ys xs)) (sym e)
    ∙ ap (λ (n : ℕ). part n (length ys) (put at ys xs)) (sym (add-zero at))
    ∙ part_put_in at 0 (length ys) ys xs l i
    ∙ part_all ys

front : (b n : ℕ) (p q : List ℕ) → b + n ≤ length p → part b n (p ++ q) ≡ part b n p
unfolding part
front b n p q h =
    let lt : n ≤ length (drop b p) = simp length-drop (omega arith) in
    ap (take n) (drop-append-le b p q (omega arith)) ∙ take-append-le n (drop b p) q lt

-- before it
pub part_put_before : (at b n : ℕ) (ys xs : List ℕ) → at ≤ length xs → b + n ≤ at → part b n (put at ys xs) ≡ part b n xs
unfolding put
part_put_before at b n ys xs h i =
    let l : b + n ≤ length (take at xs) = simp length-take (omega arith) in
    front b n (take at xs) (ys ++ drop (at + length ys) xs) l
    ∙ sym (front b n (take at xs) (drop at xs) l)
    ∙ ap (part b n) (take-append-drop at xs)

drop_put : (at : ℕ) (ys xs : List ℕ) → at + length ys ≤ length xs → drop (at + length ys) (put at ys xs) ≡ drop (at + length ys) xs
unfolding put
drop_put at ys xs h =
    let r : List ℕ = drop (at + length ys) xs in
    ap (drop (at + length ys)) (sym (append_assoc (take at xs) ys r))
    ∙ drop_at (take at xs ++ ys) r (at + length ys) (simp (length-append, length-take) (omega arith))

take_put : (at : ℕ) (ys xs : List ℕ) → at ≤ length xs → take at (put at ys xs) ≡ take at xs
unfolding put
take_put at ys xs h = take_at (take at xs) (ys ++ drop (at + length ys) xs) at (length-take-le at xs h)

-- after it
pub part_put_after : (at b n : ℕ) (ys xs : List ℕ) → at + length ys ≤ length xs → at + length ys ≤ b → part b n (put at ys xs) ≡ part b n xs
unfolding part
part_put_after at b n ys xs h i =
    let e : at + length ys + (b - (at + length ys)) ≡ b = omega arith in
    ap (take n)
    (ap (λ (k : ℕ). drop k (put at ys xs)) (sym e)
    ∙ sym (drop-drop (b - (at + length ys)) (at + length ys) (put at ys xs))
    ∙ ap (drop (b - (at + length ys))) (drop_put at ys xs h)
    ∙ drop-drop (b - (at + length ys)) (at + length ys) xs
    ∙ ap (λ (k : ℕ). drop k xs) e)

-- an element before it, and after it
pub get_d_put_before : (at i : ℕ) (ys xs : List ℕ) → at ≤ length xs → i < at → get_or (put at ys xs) i 0 ≡ get_or xs i 0
unfolding put
get_d_put_before at i ys xs h l =
    let k : i < length (take at xs) = rw length-take-le l in
    get_or-append (take at xs) (ys ++ drop (at + length ys) xs) 0 i k ∙ get_or-take at xs i 0 l

pub get_d_put_after : (at i : ℕ) (ys xs : List ℕ) → at + length ys ≤ length xs → at + length ys ≤ i → get_or (put at ys xs) i 0 ≡ get_or xs i 0
get_d_put_after at i ys xs h l =
    let e : at + length ys + (i - (at + length ys)) ≡ i = omega arith in
    ap (λ (k : ℕ). get_or (put at ys xs) k 0) (sym e)
    ∙ sym (get_or-drop (at + length ys) (put at ys xs) (i - (at + length ys)) 0)
    ∙ ap (λ (r : List ℕ). get_or r (i - (at + length ys)) 0) (drop_put at ys xs h)
    ∙ get_or-drop (at + length ys) xs (i - (at + length ys)) 0
    ∙ ap (λ (k : ℕ). get_or xs k 0) e

-- ---- several puts

pub put_none : (at : ℕ) (xs : List ℕ) → put at [] xs ≡ xs
unfolding put
put_none at xs = rw add-zero (take-append-drop at xs)

-- over the whole
pub put_all : (ys xs : List ℕ) → length ys ≡ length xs → put 0 ys xs ≡ ys
unfolding put
put_all ys xs e = rw (zero-add, e, drop-length, append-nil)

-- what stands there already
pub put_part : (at k : ℕ) (xs : List ℕ) → at + k ≤ length xs → put at (part at k xs) xs ≡ xs
unfolding put part
put_part at k xs h =
    let e : length (take k (drop at xs)) ≡ k = length-take-le k (drop at xs) (simp length-drop (omega arith)) in
    rw (e, ← drop-drop k at xs, take-append-drop k (drop at xs), take-append-drop at xs)

-- over what was put there
over : (at : ℕ) (ys s t : List ℕ) → take at t ≡ take at s → drop (at + length ys) t ≡ drop (at + length ys) s → put at ys t ≡ put at ys s
unfolding put
over at ys s t p q = rw (p, q)

put_again : (at : ℕ) (xs ys s : List ℕ) → length xs ≡ length ys → at + length ys ≤ length s → put at ys (put at xs s) ≡ put at ys s
put_again at xs ys s e h =
    let l : at + length xs ≤ length s = omega arith in
    let d : drop (at + length ys) (put at xs s) ≡ drop (at + length ys) s = subst (λ (n : ℕ). drop (at + n) (put at xs s) ≡ drop (at + n) s) e (drop_put at xs s l) in
    over at ys s (put at xs s) (take_put at xs s (omega arith)) d

-- one run after another
pub put_put : (at : ℕ) (xs ys s : List ℕ) → at + length xs + length ys ≤ length s → put (at + length xs) ys (put at xs s) ≡ put at (xs ++ ys) s
unfolding put
put_put at xs ys s h =
    let p : List ℕ = take at s in
    let r : List ℕ = drop (at + length xs) s in
    let l : length (p ++ xs) ≡ at + length xs = simp (length-append, length-take) (omega arith) in
    ap (λ (a : List ℕ). a ++ (ys ++ drop (at + length xs + length ys) (put at xs s)))
    (ap (take (at + length xs)) (sym (append_assoc p xs r)) ∙ take_at (p ++ xs) r (at + length xs) l)
    ∙ ap (λ (a : List ℕ). (p ++ xs) ++ (ys ++ a))
    (sym (drop-drop (length ys) (at + length xs) (put at xs s)) ∙ ap (drop (length ys)) (drop_put at xs s (omega arith)) ∙ drop-drop (length ys) (at + length xs) s)
    ∙ simp (append_assoc, length-append, add_assoc)

-- the same, at a place that is known by a sum
pub put_next : (at k n : ℕ) (xs ys s : List ℕ) → length xs ≡ k → length ys ≡ n → at + k + n ≤ length s → put (at + k) ys (put at xs s) ≡ put at (xs ++ ys) s
put_next at k n xs ys s e f h =
    subst (λ (j : ℕ). put (at + j) ys (put at xs s) ≡ put at (xs ++ ys) s) e (put_put at xs ys s (omega arith))

-- over what was put at the same place and is no longer than it
pub put_wider : (at : ℕ) (xs ys t : List ℕ) → length xs ≤ length ys → at + length ys ≤ length t → put at ys (put at xs t) ≡ put at ys t
put_wider at xs ys t l h =
    let n : ℕ = length xs in
    let a : List ℕ = take n ys in
    let b : List ℕ = drop n ys in
    let la : length a ≡ n = length-take-le n ys l in
    let lb : length b ≡ length ys - n = length-drop n ys in
    let lx : length (put at xs t) ≡ length t = length_put at xs t (omega arith) in
    let cut : (u : List ℕ) → length u ≡ length t → put at ys u ≡ put (at + n) b (put at a u) =
    λ u e. ap (λ (y : List ℕ). put at y u) (sym (take-append-drop n ys)) ∙ sym (put_next at n (length ys - n) a b u la lb (omega arith)) in
    cut (put at xs t) lx
    ∙ ap (put (at + n) b) (put_again at xs a t (sym la) (omega arith))
    ∙ sym (cut t refl)

-- over what was put within the same bytes
pub put_within : (at bt : ℕ) (xs ys t : List ℕ) → at ≤ bt → bt + length xs ≤ at + length ys → at + length ys ≤ length t → put at ys (put bt xs t) ≡ put at ys t
put_within at bt xs ys t ab l h =
    let m : ℕ = bt - at in
    let e : at + m ≡ bt = omega arith in
    let x : List ℕ = part at m t in
    let lx : length x ≡ m = length_part at m t (omega arith) in
    let w : put bt xs t ≡ put at (x ++ xs) t =
    ap₂ (λ (n : ℕ) (u : List ℕ). put n xs u) (sym e) (sym (put_part at m t (omega arith)))
    ∙ put_next at m (length xs) x xs t lx refl (omega arith) in
    ap (put at ys) w ∙ put_wider at (x ++ xs) ys t (omega (arith, length-append x xs)) h

-- two stores in a row, as the code has them: t after the first, u after the second
pub chain : (at k n : ℕ) (xs ys s t u : List ℕ) → length xs ≡ k → length ys ≡ n → at + k + n ≤ length s
    → t ≡ put at xs s → u ≡ put (at + k) ys t → u ≡ put at (xs ++ ys) s
chain at k n xs ys s t u e f h p q = q ∙ ap (put (at + k) ys) p ∙ put_next at k n xs ys s e f h

-- many stores in a row: t is s with the k bytes xs at a place
pub record Stored (at k : ℕ) (xs s t : List ℕ) : Type 0 where
  pub long : length xs ≡ k
  pub bytes : t ≡ put at xs s

-- the first of them
pub stored : (at k : ℕ) (xs s : List ℕ) {t : List ℕ} → length xs ≡ k → t ≡ put at xs s → Stored at k xs s t
stored at k xs s e p = record { long = e; bytes = p }

-- the next, at the place where those before it end
pub then_stored : {at k : ℕ} {xs s t : List ℕ} → Stored at k xs s t → (n : ℕ) (ys : List ℕ) {u : List ℕ} → length ys ≡ n → at + k + n ≤ length s → u ≡ put (at + k) ys t → Stored at (k + n) (xs ++ ys) s u
then_stored {at} {k} {xs} {s} {t} r n ys {u} e h p = record { long = length_two k n xs ys r.long e; bytes = chain at k n xs ys s t u r.long e h r.bytes p }

-- the second run stored first
pub put_front : (at k n : ℕ) (xs ys s : List ℕ) → length xs ≡ k → length ys ≡ n → at + k + n ≤ length s → put at xs (put (at + k) ys s) ≡ put at (xs ++ ys) s
unfolding put
put_front at k n xs ys s e f h =
    let p : List ℕ = take (at + k) s in
    let r : List ℕ = drop (at + k + length ys) s in
    let lp : length p ≡ at + k = length-take-le (at + k) s (omega arith) in
    let a : take at (p ++ (ys ++ r)) ≡ take at s = take-append-le at p (ys ++ r) (omega arith) ∙ take-take at (at + k) s (omega arith) in
    let b : drop (at + k) (p ++ (ys ++ r)) ≡ ys ++ r = drop_at p (ys ++ r) (at + k) lp in
    let c : at + k + length ys ≡ at + length (xs ++ ys) = simp length-append (omega arith) in
    ap (λ (n : ℕ). take at (p ++ (ys ++ r)) ++ (xs ++ drop (at + n) (p ++ (ys ++ r)))) e
    ∙ ap₂ (λ (u v : List ℕ). u ++ (xs ++ v)) a b
    ∙ ap (λ (v : List ℕ). take at s ++ v) (sym (append_assoc xs ys r))
    ∙ ap (λ (n : ℕ). take at s ++ ((xs ++ ys) ++ drop n s)) c

-- n bytes put behind the first of n + 1 zeros
pub put_behind_zero : (n : ℕ) (ys : List ℕ) → length ys ≡ n → put 1 ys (replicate (suc n) 0) ≡ 0 ∷ ys
unfolding put
put_behind_zero n ys e =
    let l : length (replicate {A = ℕ} (suc n) 0) ≤ 1 + length ys = omega (arith, length-replicate {A = ℕ} (suc n) 0) in
    ap (λ (r : List ℕ). 0 ∷ (ys ++ r)) (drop_of_length-le (replicate (suc n) 0) l) ∙ ap (λ (r : List ℕ). 0 ∷ r) (append-nil ys)

-- what a copy into the part of a slice leaves
pub put_mid_put : (at k : ℕ) (ys xs : List ℕ) → length ys ≡ k → put_mid at k xs ys ≡ put at ys xs
unfolding put
put_mid_put at k ys xs e = rw (← e) (ap (λ (r : List ℕ). take at xs ++ (ys ++ r)) (drop-drop (length ys) at xs))

-- and a copy within a slice, from a place to another
pub paste_put : (from at n : ℕ) (xs : List ℕ) → from + n ≤ length xs → paste xs at (drop from xs) n ≡ put at (part from n xs) xs
unfolding put part
paste_put from at n xs h = rw (length_part from n xs h) (append_assoc (take at xs) (take n (drop from xs)) (drop (at + n) xs))

-- bytes before a place over those from it on, when the two sides of the place stand apart
pub put_apart : (at by n : ℕ) (s low high : List ℕ) → n ≤ by → at + by + n ≤ length s → low ≡ take (at + by) s → high ≡ drop (at + by) s
    → low ++ (part at n low ++ drop n high) ≡ put (at + by) (part at n s) s
unfolding put
put_apart at by n s low high l h e f =
    let p : part at n low ≡ part at n s = ap (part at n) (e ∙ sym (part_front (at + by) s)) ∙ part_part 0 (at + by) at n s (omega arith) ∙ ap (λ (k : ℕ). part k n s) (zero-add at) in
    let d : drop n high ≡ drop (at + by + length (part at n s)) s =
    ap (drop n) f ∙ drop-drop n (at + by) s ∙ ap (λ (k : ℕ). drop (at + by + k) s) (sym (length_part at n s (omega arith))) in
    ap₂ (λ (x y : List ℕ). x ++ y) e (ap₂ (λ (x y : List ℕ). x ++ y) p d)

-- a block more that goes up: of n bytes all but the first k have gone up by `by`, and now the m before these go
pub moved_block : (s t u : List ℕ) (at by n k m : ℕ) → m ≤ k → m ≤ by → k ≤ n → at + by + n ≤ length s → t ≡ put (at + by + k) (part (at + k) (n - k) s) s
    → u ≡ put (at + (k - m) + by) (part (at + (k - m)) m t) t → u ≡ put (at + by + (k - m)) (part (at + (k - m)) (n - (k - m)) s) s
moved_block s t u at by n k m mk mb kn h e f =
    let j : ℕ = k - m in
    let a : ℕ = at + j + by in
    let xs : List ℕ = part (at + j) m s in
    let ys : List ℕ = part (at + k) (n - k) s in
    let i : at + j + m ≡ at + k = omega arith in
    let b : at + by + k ≡ a + m = omega arith in
    let c : a ≡ at + by + j = omega arith in
    let d : m + (n - k) ≡ n - j = omega arith in
    let q : part (at + j) m t ≡ xs = ap (part (at + j) m) e ∙ part_put_before (at + by + k) (at + j) m ys s (omega arith) (omega arith) in
    let r : t ≡ put (a + m) ys s = e ∙ ap (λ (x : ℕ). put x ys s) b in
    let w : xs ++ ys ≡ part (at + j) (n - j) s =
    ap (λ (x : ℕ). xs ++ part x (n - k) s) (sym i) ∙ sym (part_add (at + j) m (n - k) s) ∙ ap (λ (x : ℕ). part (at + j) x s) d in
    f
    ∙ ap₂ (put a) q r
    ∙ put_front a m (n - k) xs ys s (length_part (at + j) m s (omega arith)) (length_part (at + k) (n - k) s (omega arith)) (omega arith)
    ∙ ap₂ (λ (x : ℕ) (y : List ℕ). put x y s) c w

-- and the last block, which is the first k
pub moved_last : (s t u : List ℕ) (at by n k : ℕ) → k ≤ by → k ≤ n → at + by + n ≤ length s → t ≡ put (at + by + k) (part (at + k) (n - k) s) s
    → u ≡ put (at + by) (part at k t) t → u ≡ put (at + by) (part at n s) s
moved_last s t u at by n k kb kn h e f =
    let a : at + (k - k) ≡ at = omega arith in
    moved_block s t u at by n k k (omega arith) kb kn h e (f ∙ ap (λ (x : ℕ). put (x + by) (part x k t) t) (sym a))
    ∙ ap₂ (λ (x : ℕ) (y : List ℕ). put x y s) (omega arith) (ap₂ (λ (x y : ℕ). part x y s) a (omega arith))

-- before any has gone up
pub moved_none : (at by n : ℕ) (s : List ℕ) → s ≡ put (at + by + n) (part (at + n) (n - n) s) s
moved_none at by n s =
    let e : n - n ≡ 0 = omega arith in
    sym (ap (λ (k : ℕ). put (at + by + n) (part (at + n) k s) s) e ∙ ap (λ (x : List ℕ). put (at + by + n) x s) (part_none (at + n) s) ∙ put_none (at + by + n) s)

-- one element
pub put_one : (at x : ℕ) (xs : List ℕ) → at < length xs → put at (x ∷ []) xs ≡ set xs at x
unfolding put
put_one at x xs h = ap (λ (n : ℕ). take at xs ++ x ∷ drop n xs) (add-one at) ∙ sym (set_split xs at x h)

-- ---- the number at a place

pub be_at : (at : ℕ) (s : List ℕ) → at < length s → be (part at 1 s) ≡ get_or s at 0
be_at at s h = ap be (part_one at s h) ∙ N.be_one (get_or s at 0)

-- two halves
pub be_two : (at j k : ℕ) (s : List ℕ) → at + (j + k) ≤ length s → be (part at (j + k) s) ≡ be (part at j s) * 256 ^ k + be (part (at + j) k s)
be_two at j k s h =
    ap be (part_add at j k s)
    ∙ N.be_append (part at j s) (part (at + j) k s)
    ∙ ap (λ (n : ℕ). be (part at j s) * 256 ^ n + be (part (at + j) k s)) (length_part (at + j) k s (omega arith))

-- one byte more
pub be_more : (at k : ℕ) (s : List ℕ) → at + k < length s → be (part at (k + 1) s) ≡ be (part at k s) * 256 + get_or s (at + k) 0
be_more at k s h = ap be (part_more at k s h) ∙ N.be_snoc (part at k s) (get_or s (at + k) 0)

-- the number at a place is below 256 to its width
pub be_part_lt : (at k : ℕ) (s : List ℕ) → AreBytes s → at + k ≤ length s → be (part at k s) < 256 ^ k
be_part_lt at k s b h = subst (λ (n : ℕ). be (part at k s) < 256 ^ n) (length_part at k s h) (N.be_lt (part at k s) (bytes_part at k s b))

-- the bytes at a place are the bytes of their number
pub bytes_at : (at k : ℕ) (s : List ℕ) → AreBytes s → at + k ≤ length s → bytes_of k (be (part at k s)) ≡ part at k s
bytes_at at k s b h = ap (λ (n : ℕ). bytes_of n (be (part at k s))) (sym (length_part at k s h)) ∙ N.bytes_of_be (part at k s) (bytes_part at k s b)

-- one byte stored
pub store_one : (at v : ℕ) (s : List ℕ) → v < 256 → at < length s → set s at v ≡ put at (bytes_of 1 v) s
unfolding bytes_of
store_one at v s l h = sym (put_one at v s h) ∙ ap (λ (x : ℕ). put at (x ∷ []) s) (sym (ap (λ (x : ℕ). x % 256) (div-one v) ∙ mod-eq_of_lt l))

-- a number stored in two halves
pub store_two : (at j k v hi lo : ℕ) (s t u : List ℕ) → at + (j + k) ≤ length s → bytes_of j hi ≡ bytes_of j (v / 256 ^ k) → bytes_of k lo ≡ bytes_of k v
    → t ≡ put at (bytes_of j hi) s → u ≡ put (at + j) (bytes_of k lo) t → u ≡ put at (bytes_of (j + k) v) s
store_two at j k v hi lo s t u h p q e f =
    chain at j k (bytes_of j hi) (bytes_of k lo) s t u (N.length_bytes_of j hi) (N.length_bytes_of k lo) (omega arith) e f
    ∙ ap (λ (l : List ℕ). put at l s) (ap₂ (λ (x y : List ℕ). x ++ y) p q ∙ sym (N.bytes_of_two j k v))

-- ---- all zero

pub all_zero_append : (xs ys : List ℕ) → all_zero (xs ++ ys) ≡ cond (all_zero xs) (all_zero ys) false
unfolding all_zero
all_zero_append [] ys = refl
all_zero_append (x ∷ xs) ys = ap (λ (b : Bool). cond (eqb x 0) b false) (all_zero_append xs ys) ∙ both (eqb x 0) (all_zero xs)
  where
    both : (p q : Bool) → cond p (cond q (all_zero ys) false) false ≡ cond (cond p q false) (all_zero ys) false
    both true q = refl
    both false q = refl

-- what is all zero
pub all_zero_true : (xs : List ℕ) → all_zero xs ≡ true → xs ≡ replicate (length xs) 0
unfolding all_zero
all_zero_true [] h = refl
all_zero_true (x ∷ xs) h = go (eqb x 0) refl (all_zero_true xs) h
  where
    go : (p : Bool) → eqb x 0 ≡ p → (all_zero xs ≡ true → xs ≡ replicate (length xs) 0) → cond p (all_zero xs) false ≡ true → x ∷ xs ≡ 0 ∷ replicate (length xs) 0
    go true e rest h = ap₂ {C = List ℕ} (λ a l. a ∷ l) (eqb-true x 0 e) (rest h)
    go false e rest h = cc

pub all_zero_zeros : (n : ℕ) → all_zero (replicate n 0) ≡ true
unfolding all_zero
all_zero_zeros zero = refl
all_zero_zeros (suc n) = all_zero_zeros n
