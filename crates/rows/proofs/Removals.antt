-- What a removal leaves, in the rules' words. The rows from the first place of a run up to its last go: those before it are below the first key, those
-- after it above the second, so the others are the records whose keys do not lie between. One record is the run from its key to itself.
use Rattle.std.proofs.Common.{◌≡◌, ℕ, suc, ◌+◌, ◌-◌, ◌<◌, ◌≤◌, Bool, true, false, not, ◌&&◌, List, [], ◌∷◌, ◌++◌, map, length, get_or, take, drop, sym, refl, ap, ◌∙◌, ap₂, suc-le-suc, arith, length-drop, take-append-drop, length-take, get_or-drop, get_or-take, drop-drop, Ok, Err}
use Prim.Native.Nat.{Ordering}
use lib.Dec.{compare_is_eq, is_le}
use Rattle.basics.specs.Orders.{is_lt}
use Rattle.rules.specs.Lists.{those}
use Rattle.rules.specs.Tables.{over, remove}
use Rattle.rules.proofs.TableLaws.{cases, those_append, formed_remove}
use Rattle.table.specs.Records.{rises, spot, place, past, removed}
use Rattle.table.specs.Table.{count_of, recs, laid}
use Rattle.table.specs.Run.{in_run, RunOf}
use Rattle.table.proofs.Rows.{length_recs}
use Rattle.table.proofs.Spots.{at_lt, gap_le}
use Rattle.table.proofs.Checks.{well_rises}
use Rattle.table.proofs.Runs as Run
use Rattle.layout.specs.Codecs.{Codec}
use Rattle.layout.specs.Tables.{formed_in, table_in, laid_over}
use Rattle.rows.specs.Lookups.{within}
use Rattle.rows.proofs.Rows.{Layout, formed_two, Laid, formed_well, formed_forms, formed_rules, rows_are, laid_holds}
use Rattle.rows.proofs.Finds.{Names, in_run_lem, those_spelled, run_rows, stretch_end}

-- ---- lists: what is left where those from place i up to place j go

module _ {A : Type 0} (f : A → Bool) (d : A) where
  rest_whole : (l : List A) → ((m : ℕ) → m < length l → f (get_or l m d) ≡ false) → those (λ x. not (f x)) l ≡ l
  unfolding those
  rest_whole [] h = refl
  rest_whole (x ∷ l) h = rw (h 0 (omega arith)) (ap (λ (m : List A). x ∷ m) (rest_whole l (λ m g. h (suc m) (suc-le-suc g))))

  rest_none : (l : List A) → ((m : ℕ) → m < length l → f (get_or l m d) ≡ true) → those (λ x. not (f x)) l ≡ []
  unfolding those
  rest_none [] h = refl
  rest_none (x ∷ l) h = rw (h 0 (omega arith)) (rest_none l (λ m g. h (suc m) (suc-le-suc g)))

  rest_is : (l : List A) (i j : ℕ) → i ≤ j → j ≤ length l → ((m : ℕ) → m < i → f (get_or l m d) ≡ false) → ((m : ℕ) → i ≤ m → m < j → f (get_or l m d) ≡ true)
      → ((m : ℕ) → j ≤ m → m < length l → f (get_or l m d) ≡ false) → take i l ++ drop j l ≡ those (λ x. not (f x)) l
  rest_is l i j ij jl before inside after =
      let n : ℕ = j - i in
      let e : i + n ≡ j = omega arith in
      let g : A → Bool = λ x. not (f x) in
      let last : drop n (drop i l) ≡ drop j l = drop-drop n i l ∙ ap (λ (m : ℕ). drop m l) e in
      let a : those g (take i l) ≡ take i l =
      rest_whole (take i l) (λ m h. let q : m < i = omega (arith, length-take i l) in ap f (get_or-take i l m d q) ∙ before m q) in
      let b : those g (take n (drop i l)) ≡ [] =
      rest_none (take n (drop i l)) (λ m h. let q : m < n = omega (arith, length-take n (drop i l)) in ap f (get_or-take n (drop i l) m d q ∙ get_or-drop i l m d) ∙ inside (i + m) (omega arith) (omega arith)) in
      let c : those g (drop j l) ≡ drop j l =
      rest_whole (drop j l) (λ m h. ap f (get_or-drop j l m d) ∙ after (j + m) (omega arith) (omega (arith, length-drop j l))) in
      sym (ap (those g) (sym (take-append-drop i l))
      ∙ those_append g (take i l) (drop i l)
      ∙ ap₂ (λ (x y : List A). x ++ y) a
      (ap (those g) (sym (take-append-drop n (drop i l))) ∙ those_append g (take n (drop i l)) (drop n (drop i l)) ∙ ap₂ (λ (x y : List A). x ++ y) b (ap (those g) last ∙ c)))

none_go : {A : Type 0} (f : A → Bool) (l : List A) → those f l ≡ [] → those (λ x. not (f x)) l ≡ l
unfolding those
none_go f [] e = refl
none_go {A} f (x ∷ l) e =
    cases (f x)
    (λ q. let z : ◌≡◌ {A = ℕ} 0 1 = cc (rw q at e) in absurd (omega arith))
    (λ q. rw q (ap (λ (m : List A). x ∷ m) (none_go f l (rw q at e))))

-- a key that is not below x and not above it is x
one_key : (o : Ordering) → (is_le o && not (is_lt o)) ≡ compare_is_eq o
one_key Ordering.lt = refl
one_key Ordering.eq = refl
one_key Ordering.gt = refl

pub within_one : {R K : Type 0} (key : R → K) (order : K → K → Ordering) (x : K) → ◌≡◌ {A = R → Bool} (within key order x x) (λ r. compare_is_eq (order x (key r)))
within_one key order x d r = one_key (order x (key r)) d

module _ {R K : Type 0} {c : Codec R} {s k : ℕ} {form : R → Bool} {key : R → K} {order : K → K → Ordering} (L : Layout c s k form key order)
    (t : List ℕ) (e : formed_in c k form t ≡ true) where
  -- bytes that hold the table without the records that pass a test
  pub remove_holds : (f : R → Bool) → Laid L (remove f (table_in c t)) t (laid_over c (remove f (table_in c t)) t)
  remove_holds f =
      laid_holds L (remove f (table_in c t)) t (formed_remove key order L.lawful form f (table_in c t) (formed_rules L t e)) refl (formed_two L t e)

  -- ---- the records whose keys lie from x to y

  module _ (a b : List ℕ) (x y : K) (na : Names L a x) (nb : Names L b y) (i j : ℕ) (h : RunOf s k a b t i j) where
    rest_rows : i ≤ j → take i (recs s t) ++ drop j (recs s t) ≡ map c.spell (those (λ r. not (within key order x y r)) (table_in c t).rows)
    rest_rows ij =
        let rs : List (List ℕ) = recs s t in
        let up : rises k rs ≡ true = well_rises s k t (formed_well L t e) in
        rest_is (in_run k a b) [] rs i j ij (omega (arith, h.inside, length_recs s t))
        (λ m p. Run.below k a b rs up m (omega (arith, h.begins)))
        (λ m p q. Run.inside k a b rs up m (omega (arith, h.begins)) (omega (arith, h.ends)))
        (λ m p q. Run.above k a b rs up m (omega (arith, h.ends)) q)
        ∙ ap (those (λ r. not (in_run k a b r))) (rows_are L t e)
        ∙ those_spelled L (λ r. not (in_run k a b r)) (λ r. not (within key order x y r)) (λ r f. ap not (in_run_lem L a b x y na nb r f)) (table_in c t).rows (formed_forms L t e)

    -- where it has no row, nothing goes
    pub run_empty : j ≤ i → remove (within key order x y) (table_in c t) ≡ table_in c t
    run_empty ji =
        ap (over (table_in c t)) (none_go (within key order x y) (table_in c t).rows (sym (run_rows L a b x y na nb t e i j h) ∙ stretch_end i j (table_in c t).rows ji))

    -- the bytes after the rows of a run went
    pub run_laid : i ≤ j → laid (take i (recs s t) ++ drop j (recs s t)) t ≡ laid_over c (remove (within key order x y) (table_in c t)) t
    unfolding laid_over
    run_laid ij = ap (λ (rs : List (List ℕ)). laid rs t) (rest_rows ij)

  -- ---- the record of a key: the run from the key to itself

  module _ (kb : List ℕ) (x : K) (n : Names L kb x) where
    -- the bytes after it went
    pub remove_laid : (i : ℕ) → spot k kb (recs s t) ≡ Ok i → laid (removed i (recs s t)) t ≡ laid_over c (remove (λ r. compare_is_eq (order x (key r))) (table_in c t)) t
    remove_laid i p =
        let l : i < count_of t = omega (arith, at_lt k kb (recs s t) i p, length_recs s t) in
        let h : RunOf s k kb kb t i (suc i) = record { begins = sym (ap place p); ends = omega (arith, ap past p); inside = (omega arith, l) } in
        run_laid kb kb x x n n i (suc i) h (omega arith) ∙ ap (λ (f : R → Bool). laid_over c (remove f (table_in c t)) t) (within_one key order x)

    -- where there is none, nothing goes
    pub remove_gap : (i : ℕ) → spot k kb (recs s t) ≡ Err i → remove (λ r. compare_is_eq (order x (key r))) (table_in c t) ≡ table_in c t
    remove_gap i p =
        let l : i ≤ count_of t = omega (arith, gap_le k kb (recs s t) i p, length_recs s t) in
        let h : RunOf s k kb kb t i i = record { begins = sym (ap place p); ends = omega (arith, ap past p); inside = (l, l) } in
        ap (λ (f : R → Bool). remove f (table_in c t)) (sym (within_one key order x)) ∙ run_empty kb kb x x n n i i h (omega arith)
