-- The rules of new and append read at each of their checks in turn; and a range more at the place after the last is what the rule's answer lays out as,
-- since all past that place is zero. Assumes nothing.
use Rattle.std.proofs.Common.{◌≡◌, ℕ, suc, ◌+◌, ◌-◌, ◌<◌, ◌≤◌, Bool, true, false, ◌&&◌, leb, List, [], ◌∷◌, ◌++◌, map, length, get_or, take, drop, set, replicate, sym, refl, ap, ◌∙◌, append_assoc, arith, length-append, length-drop, length-take, take_at, le-ltb, lt-ltb}
use mathlib.Core.List.{map-append}
use mir.Val.{Val}
use denote.Laws.{Is}
use denote.Struct.Declared.{row}
use lib.ListN.{length-map}
use lib.Seq.{set_split}
use Rattle.basics.specs.Answers.{Answer, refused, done, ask, ◌>>◌}
use Rattle.rules.specs.Lists.{all}
use Rattle.rules.specs.Records as rules
use Rattle.rules.specs.Arguments.{range_lsns, range_order, snapshot_lsns, snapshot_order, snapshot_new, snapshot_append}
use Rattle.rules.proofs.AnswerLaws.{refused_same, done_same, refused_done}
use Rattle.rules.proofs.TableLaws.{and_snd}
use Rattle.rules.proofs.Loops.{all_step}
use Rattle.basics.specs.declared.page_count.PageCount.{PageCount}
use Rattle.volume.specs.declared.snapshot.LogRange.{LogRange}
use Rattle.volume.specs.declared.snapshot.Snapshot.{Snapshot}
use Rattle.volume.specs.Snapshots.{range_says, snapshot_says, laid_range, no_range, is_zero_range, in_form, laid, laid_answer, with_range, appended}
use Rattle.volume.specs.contracts.snapshot.Snapshot.{the_type}
use Rattle.volume.proofs.PathLaws.{back, zero_ranges}

-- ---- what the type tells

-- a snapshot has places for 8 ranges: of a parameter, by `.good .0`
pub places : (s : Snapshot) (vs : List Val) → Is (row the_type) s vs → length s.path ≡ 8
places s vs g = g.1.1.1.0.1.0.1

-- ---- new

module _ (r : rules.Range) (count : ℕ) where
  pub new_lsns : range_lsns r ≡ false → refused 1 ≡ snapshot_new r count
  unfolding snapshot_new
  new_lsns a = rw a

  pub new_order : range_lsns r ≡ true → range_order r ≡ false → refused 2 ≡ snapshot_new r count
  unfolding snapshot_new
  new_order a b = rw (a, b)

  pub new_done : range_lsns r ≡ true → range_order r ≡ true → done (record { path = r ∷ []; count = count }) ≡ snapshot_new r count
  unfolding snapshot_new
  new_done a b = rw (a, b)

-- one range, and zero past it
pub laid_one : (r : LogRange) (count : ℕ) → with_range (laid (record { path = []; count = count })) r ≡ laid (record { path = range_says r ∷ []; count = count })
unfolding laid
laid_one r count = refl

-- ---- append

module _ (s : Snapshot) (r : LogRange) where
  pub own_lsns : snapshot_lsns (snapshot_says s) ≡ false → refused 1 ≡ appended s r
  unfolding appended
  own_lsns a = rw a

  module _ (a : snapshot_lsns (snapshot_says s) ≡ true) where
    pub range_lsns_lem : range_lsns (range_says r) ≡ false → refused 1 ≡ appended s r
    unfolding appended
    range_lsns_lem b = rw (a, b)

    module _ (b : range_lsns (range_says r) ≡ true) where
      pub own_order : snapshot_order (snapshot_says s) ≡ false → refused 2 ≡ appended s r
      unfolding appended
      own_order c = rw (a, b, c)

      module _ (c : snapshot_order (snapshot_says s) ≡ true) where
        pub range_order_lem : range_order (range_says r) ≡ false → refused 2 ≡ appended s r
        unfolding appended
        range_order_lem d = rw (a, b, c, d)

        module _ (d : range_order (range_says r) ≡ true) where
          pub not_formed : in_form s ≡ false → refused 3 ≡ appended s r
          unfolding appended
          not_formed e = rw (a, b, c, d, e)

          -- a snapshot in form is answered as the rule answers
          formed : in_form s ≡ true → snapshot_append (snapshot_says s) (range_says r) ≡ appended s r
          unfolding appended
          formed e = rw (a, b, c, d, e)

          module _ (e : in_form s ≡ true) (l : length s.path ≡ 8) where
            pub full : 8 ≤ s.len → refused 3 ≡ appended s r
            unfolding snapshot_append
            full h =
                let k : 8 ≤ length (map range_says (take s.len s.path)) = simp (length-map, length-take) (omega arith) in
                rw (← formed e, a, b, c, d, le-ltb _ 8 k)

            pub fits : s.len < 8 → done (record { path = map range_says (take s.len s.path) ++ (range_says r ∷ []); count = s.count.0 }) ≡ appended s r
            unfolding snapshot_append
            fits h =
                let k : length (map range_says (take s.len s.path)) < 8 = simp (length-map, length-take) (omega arith) in
                rw (← formed e, a, b, c, d, lt-ltb _ 8 k)

made_same : (a b : ℕ) (x y : List LogRange) (c : PageCount) → a ≡ b → x ≡ y
    → ◌≡◌ {A = Snapshot} (record { len = a; path = x; count = c }) (record { len = b; path = y; count = c })
made_same a b x y c p q = rw (p, q)

module _ (s : Snapshot) (r : LogRange) (l : length s.path ≡ 8) (h : s.len < 8) (e : in_form s ≡ true) where
  room : s.len < length s.path
  room = omega arith

  -- past the new range all is zero
  tail : drop (suc s.len) s.path ≡ replicate (8 - (s.len + 1)) no_range
  unfolding in_form
  tail =
      let z : all is_zero_range (drop s.len s.path) ≡ true = and_snd (leb s.len 8) (all is_zero_range (drop s.len s.path)) e in
      let t = and_snd (is_zero_range (get_or s.path s.len no_range)) (all is_zero_range (drop (suc s.len) s.path)) (sym (all_step is_zero_range s.path no_range s.len room) ∙ z) in
      let m : length (drop (suc s.len) s.path) ≡ 8 - (s.len + 1) = simp length-drop (omega arith) in
      zero_ranges (drop (suc s.len) s.path) t ∙ ap (λ (j : ℕ). replicate j no_range) m

  long : length (map range_says (take s.len s.path) ++ (range_says r ∷ [])) ≡ s.len + 1
  long = simp (length-append, length-map, length-take) (omega arith)

  ranges : set s.path s.len r
      ≡ map laid_range (map range_says (take s.len s.path) ++ (range_says r ∷ []))
      ++ replicate (8 - length (map range_says (take s.len s.path) ++ (range_says r ∷ []))) no_range
  ranges =
      rw (long, map-append laid_range (map range_says (take s.len s.path)) (range_says r ∷ []), back (take s.len s.path), append_assoc)
      (set_split s.path s.len r room ∙ ap (λ (t : List LogRange). take s.len s.path ++ (r ∷ t)) tail)

  pub laid_more : with_range s r ≡ laid (record { path = map range_says (take s.len s.path) ++ (range_says r ∷ []); count = s.count.0 })
  unfolding laid
  laid_more = made_same (s.len + 1) _ (set s.path s.len r) _ s.count (sym long) ranges

-- ---- on snapshots in form the answer is the rule's, and what is laid out says what was laid out

twice : {A : Type 0} (a b : Bool) (k : Answer A) → ask a 1 >> (ask b 2 >> (ask a 1 >> (ask b 2 >> k))) ≡ ask a 1 >> (ask b 2 >> k)
twice false b k = refl
twice true false k = refl
twice true true k = refl

pub in_form_lem : (s : Snapshot) (r : LogRange) → in_form s ≡ true → appended s r ≡ snapshot_append (snapshot_says s) (range_says r)
unfolding appended snapshot_append
in_form_lem s r e = rw e (twice (snapshot_lsns (snapshot_says s) && range_lsns (range_says r)) (snapshot_order (snapshot_says s) && range_order (range_says r)) _)

said_laid : (xs : List rules.Range) → map range_says (map laid_range xs) ≡ xs
said_laid [] = refl
said_laid (x ∷ xs) = ap (λ (l : List rules.Range). x ∷ l) (said_laid xs)

pub laid_says : (s : rules.Snapshot) → snapshot_says (laid s) ≡ s
unfolding laid
laid_says s =
    let e = take_at (map laid_range s.path) (replicate (8 - length s.path) no_range) (length s.path) (length-map s.path laid_range) in
    ap (λ (p : List rules.Range). record { path = p; count = s.count }) (ap (λ (l : List LogRange). map range_says l) e ∙ said_laid s.path)

-- ---- the rule's answer by the one that is laid out: a number, or what the snapshot says

pub laid_refused : (q : Answer rules.Snapshot) (n : ℕ) → refused n ≡ laid_answer q → q ≡ refused n
laid_refused (refused m) n e = ap refused (sym (refused_same e))
laid_refused (done s) n e = refused_done e

pub laid_done : (q : Answer rules.Snapshot) (s : Snapshot) → done s ≡ laid_answer q → q ≡ done (snapshot_says s)
laid_done (refused n) s e = refused_done (sym e)
laid_done (done x) s e = ap done (sym (ap snapshot_says (done_same e) ∙ laid_says x))
