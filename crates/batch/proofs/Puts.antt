-- The laws of `put_all`, `lacks`, `news` and `fresh`. The law of room is `length_put_all`: a put adds its key as a first record would, so the records
-- after are those held plus the distinct new keys.
use mathlib.Core.Path.{◌≡◌, refl, sym, ap, ◌∙◌}
use mathlib.Core.Bool.{true}
use mathlib.Core.List.{List, [], ◌∷◌, ◌++◌}
use Prim.Native.Nat.{ℕ, ◌+◌, ◌*◌, ◌≤◌}
use native.Mathlib.Omega.{arith}
use lib.ListN.{length, take, drop, take-append-drop}
use Rattle.std.proofs.Common.{Ordering, Less, Equal, Greater, Result, Ok, Err}
use Rattle.table.specs.Records.{cmp, rises, spot, look_by, look, put}
use Rattle.table.specs.Table.{Each, count_of, recs, well_ordered, holds, fits}
use Rattle.table.proofs.Keys.{equal_turned, equal?, less_not_equal, rises_head, rises_tail, rises_skip}
use Rattle.table.proofs.Rows.{length_recs}
use Rattle.table.proofs.Spots.{each_put, rises_put, look_put_same, look_put_other, look_like, look_at, look_gap, length_put_at, length_put_gap}
use Rattle.table.proofs.Checks.{well_rises}
use Rattle.table.proofs.Ends.{fits_by}
use Rattle.batch.specs.Batch.{put_all, gone, lacks, news, fresh}

-- ---- what a put of many keeps

pub each_put_all : (s k : ℕ) (rs l : List (List ℕ)) → Each s rs → Each s l → Each s (put_all k rs l)
each_put_all s k [] l e h = h
each_put_all s k (r ∷ rs) l e h = each_put_all s k rs (put k r l) e.1 (each_put s k r l e.0 h)

pub rises_put_all : (k : ℕ) (rs l : List (List ℕ)) → rises k l ≡ true → rises k (put_all k rs l) ≡ true
rises_put_all k [] l h = h
rises_put_all k (r ∷ rs) l h = rises_put_all k rs (put k r l) (rises_put k r l h)

pub put_all_append : (k : ℕ) (a b l : List (List ℕ)) → put_all k (a ++ b) l ≡ put_all k b (put_all k a l)
put_all_append k [] b l = refl
put_all_append k (r ∷ a) b l = put_all_append k a b (put k r l)

-- ---- `lacks`

pub lacks_cons_same : (k : ℕ) (x r : List ℕ) (l : List (List ℕ)) → cmp k x r ≡ Equal → lacks k x (r ∷ l) ≡ 0
unfolding lacks
lacks_cons_same k x r l e = rw e

pub lacks_cons_other : (k : ℕ) (x r : List ℕ) (l : List (List ℕ)) → (cmp k x r ≡ Equal → ⊥) → lacks k x (r ∷ l) ≡ lacks k x l
unfolding lacks
lacks_cons_other k x r l n = go (cmp k x r) refl
  where
    go : (o : Ordering) → cmp k x r ≡ o → gone (look_by o r (look k x l)) ≡ gone (look k x l)
    go Less e = refl
    go Equal e = absurd (n e)
    go Greater e = refl

lacks_like : (k : ℕ) (x y : List ℕ) (l : List (List ℕ)) → cmp k x y ≡ Equal → lacks k x l ≡ lacks k y l
unfolding lacks
lacks_like k x y l e = ap gone (look_like k x y l e)

pub lacks_none : (k : ℕ) (x : List ℕ) → lacks k x [] ≡ 1
unfolding lacks
lacks_none k x = refl

-- a put adds its key, as a first record would
lacks_put_same : (k : ℕ) (r : List ℕ) (l : List (List ℕ)) → lacks k r (put k r l) ≡ 0
unfolding lacks
lacks_put_same k r l = ap gone (look_put_same k r l)

lacks_put_other : (k : ℕ) (x r : List ℕ) (l : List (List ℕ)) → (cmp k x r ≡ Equal → ⊥) → lacks k x (put k r l) ≡ lacks k x l
unfolding lacks
lacks_put_other k x r l n = ap gone (look_put_other k x r l n)

lacks_put : (k : ℕ) (x r : List ℕ) (l : List (List ℕ)) → lacks k x (put k r l) ≡ lacks k x (r ∷ l)
lacks_put k x r l =
    equal? (cmp k x r)
    (λ e. lacks_like k x r (put k r l) e ∙ lacks_put_same k r l ∙ sym (lacks_cons_same k x r l e))
    (λ n. lacks_put_other k x r l n ∙ sym (lacks_cons_other k x r l n))

-- with more records in front
lacks_front : (k : ℕ) (x : List ℕ) (a l m : List (List ℕ)) → lacks k x l ≡ lacks k x m → lacks k x (a ++ l) ≡ lacks k x (a ++ m)
lacks_front k x [] l m e = e
lacks_front k x (y ∷ a) l m e =
    equal? (cmp k x y)
    (λ f. lacks_cons_same k x y (a ++ l) f ∙ sym (lacks_cons_same k x y (a ++ m) f))
    (λ n. lacks_cons_other k x y (a ++ l) n ∙ lacks_front k x a l m e ∙ sym (lacks_cons_other k x y (a ++ m) n))

-- the records in two parts
pub lacks_append : (k : ℕ) (x : List ℕ) (a l : List (List ℕ)) → lacks k x (a ++ l) ≡ lacks k x a * lacks k x l
lacks_append k x [] l = rw (lacks_none k x) (omega arith)
lacks_append k x (y ∷ a) l =
    equal? (cmp k x y)
    (λ f. lacks_cons_same k x y (a ++ l) f ∙ rw (lacks_cons_same k x y a f) (omega arith))
    (λ n. lacks_cons_other k x y (a ++ l) n ∙ lacks_append k x a l ∙ ap (λ (i : ℕ). i * lacks k x l) (sym (lacks_cons_other k x y a n)))

-- ---- `news`, and the length of `put_all`

news_same : (k : ℕ) (rs l m : List (List ℕ)) → ((x : List ℕ) → lacks k x l ≡ lacks k x m) → news k rs l ≡ news k rs m
news_same k [] l m h = refl
news_same k (r ∷ rs) l m h = rw (lacks_front k r rs l m (h r), news_same k rs l m h)

-- two keys added, in either order
exchange : (k : ℕ) (r s : List ℕ) (l : List (List ℕ)) → lacks k s (r ∷ l) + lacks k r l ≡ lacks k s l + lacks k r (s ∷ l)
exchange k r s l =
    equal? (cmp k s r)
    (λ e. omega (arith, lacks_cons_same k s r l e, lacks_cons_same k r s l (equal_turned k s r e), lacks_like k s r l e))
    (λ n. omega (arith, lacks_cons_other k s r l n, lacks_cons_other k r s l (λ e. n (equal_turned k r s e))))

-- a record in the midst, or in front
lacks_mid : (k : ℕ) (x r : List ℕ) (a l : List (List ℕ)) → lacks k x (a ++ r ∷ l) ≡ lacks k x (r ∷ (a ++ l))
lacks_mid k x r a l =
    equal? (cmp k x r)
    (λ e. lacks_append k x a (r ∷ l) ∙ rw (lacks_cons_same k x r l e, lacks_cons_same k x r (a ++ l) e) (omega arith))
    (λ n. lacks_front k x a (r ∷ l) l (lacks_cons_other k x r l n) ∙ sym (lacks_cons_other k x r (a ++ l) n))

news_first : (k : ℕ) (r : List ℕ) (rs l : List (List ℕ)) → lacks k r l + news k rs (r ∷ l) ≡ news k (r ∷ rs) l
news_first k r [] l = refl
news_first k r (s ∷ rs) l =
    omega (arith, news_first k r rs l, lacks_mid k s r rs l, exchange k r s (rs ++ l))

length_put : (k : ℕ) (r : List ℕ) (l : List (List ℕ)) → rises k l ≡ true → length (put k r l) ≡ length l + lacks k r l
unfolding lacks
length_put k r l h = go (spot k r l) refl
  where
    go : (p : Result ℕ ℕ) → spot k r l ≡ p → length (put k r l) ≡ length l + gone (look k r l)
    go (Ok i) e = rw (look_at k r l i e) (length_put_at k r l i e ∙ omega arith)
    go (Err i) e = rw (look_gap k r l i h e) (length_put_gap k r l i e)

-- of a batch in two parts, those of each
pub fresh_append : (k : ℕ) (a b l : List (List ℕ)) → fresh k (a ++ b) l ≡ fresh k a l + fresh k b l
fresh_append k [] b l = omega arith
fresh_append k (r ∷ a) b l = omega (arith, fresh_append k a b l)

-- the law of room: the records after are those held plus the distinct new keys
pub length_put_all : (k : ℕ) (rs l : List (List ℕ)) → rises k l ≡ true → length (put_all k rs l) ≡ length l + news k rs l
length_put_all k [] l h = omega arith
length_put_all k (r ∷ rs) l h =
    omega (arith, length_put_all k rs (put k r l) (rises_put k r l h), length_put k r l h, news_same k rs (put k r l) (r ∷ l) (λ x. lacks_put k x r l), news_first k r rs l)

-- records only come
pub length_put_all_le : (k : ℕ) (rs l : List (List ℕ)) → rises k l ≡ true → length l ≤ length (put_all k rs l)
length_put_all_le k rs l h = omega (arith, length_put_all k rs l h)

-- the first records of a batch leave no more than all of it
pub length_put_all_take : (k i : ℕ) (rs l : List (List ℕ)) → rises k l ≡ true → length (put_all k (take i rs) l) ≤ length (put_all k rs l)
length_put_all_take k i rs l h =
    let e : put_all k rs l ≡ put_all k (drop i rs) (put_all k (take i rs) l) = ap (λ (a : List (List ℕ)). put_all k a l) (sym (take-append-drop i rs)) ∙ put_all_append k (take i rs) (drop i rs) l in
    omega (arith, ap length e, length_put_all_le k (drop i rs) (put_all k (take i rs) l) (rises_put_all k (take i rs) l h))

-- room for the distinct new keys is room for the records after
pub room_news : (s k : ℕ) (rs : List (List ℕ)) (t : List ℕ) → well_ordered s k t ≡ true → holds s (count_of t + news k rs (recs s t)) t ≡ fits s (put_all k rs (recs s t)) t
room_news s k rs t w =
    sym (fits_by s (count_of t + news k rs (recs s t)) (put_all k rs (recs s t)) t
    (length_put_all k rs (recs s t) (well_rises s k t w) ∙ ap (λ (m : ℕ). m + news k rs (recs s t)) (length_recs s t)))

-- a rising batch names no key twice
pub lacks_later : (k : ℕ) (r : List ℕ) (rs l : List (List ℕ)) → rises k (r ∷ rs) ≡ true → lacks k r (rs ++ l) ≡ lacks k r l
lacks_later k r [] l h = refl
lacks_later k r (y ∷ rs) l h =
    lacks_cons_other k r y (rs ++ l) (less_not_equal (cmp k r y) (rises_head k r y rs h)) ∙ lacks_later k r rs l (rises_skip k r y rs h)

pub news_rising : (k : ℕ) (rs l : List (List ℕ)) → rises k rs ≡ true → news k rs l ≡ fresh k rs l
news_rising k [] l h = refl
news_rising k (r ∷ rs) l h = omega (arith, lacks_later k r rs l h, news_rising k rs l (rises_tail k r rs h))
