-- Joining two ranges. The windows of a union are in order, so the set that the code makes is the rules' union; and where no set of 32 windows has its
-- pages, the union has over 32 windows, since one of at most 32 could be held by value. Assumes nothing.
use Rattle.std.proofs.Common.{◌≡◌, ℕ, ◌+◌, ◌-◌, ◌^◌, ◌<◌, ◌≤◌, true, false, ◌&&◌, ◌||◌, leb, List, [], ◌∷◌, ◌++◌, length, replicate, sym, refl, ap, ◌∙◌, ap₂, inl, inr, ⊎_elim, arith, length-append, take_at, drop_at, eq-eqb, ne_eqb, le-leb, Option as Maybe, Some, None, Result, Ok, Err}
use Prim.Native.Nat.{compare}
use mathlib.Core.Option.{Option, none, some}
use borrow.Author.Tests.{lt-leb}
use lib.ListN.{length-replicate}
use Rattle.basics.specs.Answers.{refused, done}
use Rattle.basics.specs.declared.refusal.Refusal.{Refusal}
use Rattle.basics.specs.declared.refusal.Refusal.TheVariants as Refusal
use Rattle.pageset.specs.declared.Window.{Window}
use Rattle.pageset.specs.declared.PageSet.{PageSet}
use Rattle.pageset.specs.declared.SetAnswer.{SetAnswer}
use Rattle.pageset.specs.Sets.{holds, rising, shown, member, zero_window, normal}
use Rattle.pageset.specs.Says.{IsSet, GivesOr22, Over32}
use Rattle.pageset.proofs.FormLaws.{Rises, rising_test, Normal, normal_fact, normal_test, shown_length, shown_form}
use Rattle.pageset.proofs.JoinLaws.{or_fits, or_left}
use Rattle.pageset.proofs.WindowLaws.{lt_or}
use Rattle.basics.proofs.OrderLaws.{lt_up, up_lawful}
use Rattle.rules.specs.Records.{Pages}
use Rattle.rules.specs.Pages.{with_window, union}
use Rattle.rules.proofs.Facts.{id_is}
use Rattle.rules.proofs.TableLaws.{orders}
use Rattle.rules.proofs.Union.{holds_union}
use Rattle.octets.specs.Order.{lex, is_equal}
use Rattle.basics.specs.Orders.{bytes}
use Rattle.basics.proofs.OrderLaws.{bytes_lawful}
use Rattle.rules.specs.Tables.{same_id}
use Rattle.rules.specs.Frames.{Part, touching, joined_part, join}
use Rattle.rules.proofs.TableLaws.{eq_of}
use Rattle.pageset.proofs.FormLaws.{and_both, and_left, and_right}
use Rattle.commit.specs.declared.SegmentRange.{SegmentRange}
use Rattle.commit.specs.Says.{range_says, Tells}
use Rattle.ranges.specs.Rules.{both_of, join_rule}
use Rattle.commit.proofs.SetLaws.{one_list}
use Rattle.commit.proofs.RecordLaws.{tells_found}

-- ---- the windows of a union are in order

with_rises : (lo : ℕ) (w : Window) (s : Pages) → lo ≤ w.index → w.index < 67108864 → 0 < w.mask → w.mask < 2 ^ 64 → Rises lo s → Rises lo (with_window w s)
unfolding Rises with_window
with_rises lo w [] h i k m r = (h, i, k, m, tt)
with_rises lo w (v ∷ s) h i k m r =
    orders (compare w.index v.index)
    (λ q. rw q (h, i, k, m, (omega (arith, lt_up w.index v.index q), r.1, r.2, r.3, r.4)))
    (λ q. rw q (r.0, r.1, or_left w.mask v.mask k, or_fits w.mask v.mask m r.3, r.4))
    (λ q. rw q (r.0, r.1, r.2, r.3, with_rises (v.index + 1) w s (omega (arith, lt_up v.index w.index (up_lawful.turn w.index v.index q))) i k m r.4))

union_rises : (lo : ℕ) (s u : Pages) → Rises lo s → Rises 0 u → Rises 0 (union s u)
unfolding Rises union
union_rises lo [] u r t = t
union_rises lo (w ∷ s) u r t = with_rises 0 w (union s u) (omega arith) r.1 r.2 r.3 (union_rises (w.index + 1) s u r.4 t)

-- ---- windows in order, at most 32, held by value

abbrev held : List Window → PageSet
held ws = record { len = length ws; windows = ws ++ replicate (32 - length ws) zero_window }

held_shown : (ws : List Window) → shown (held ws) ≡ ws
held_shown ws = take_at ws _ (length ws) refl

held_normal : (ws : List Window) → length ws ≤ 32 → Rises 0 ws → holds ws 0 ≡ false → Normal (held ws)
held_normal ws l r z = record {
  tidy = record {
    short = l;
    whole = length-append ws _ ∙ ap (λ (n : ℕ). length ws + n) (length-replicate (32 - length ws) zero_window) ∙ (omega arith);
    rest = drop_at ws _ (length ws) refl;
  };
  rising = rw (held_shown ws) r;
  no_zero = ap (λ (l : List Window). holds l 0) (held_shown ws) ∙ z;
}

-- ---- the union of two sets by value

module _ (a b : PageSet) (ea : normal a ≡ true) (eb : normal b ≡ true) where
  abbrev both : List Window
  both = union (shown a) (shown b)

  both_rises : Rises 0 (union (shown a) (shown b))
  both_rises = union_rises 0 (shown a) (shown b) (normal_fact a ea).rising (normal_fact b eb).rising

  both_pages : (p : ℕ) → holds both p ≡ (member a p || member b p)
  both_pages p = holds_union 0 (shown a) (shown b) p (rising_test 0 (shown a) (normal_fact a ea).rising) (rising_test 0 (shown b) (normal_fact b eb).rising)

  module _ (r : PageSet) (h : IsSet (λ p. member a p || member b p) r) where
    union_is : shown r ≡ union (shown a) (shown b)
    union_is = one_list (shown r) both (normal_fact r h.normal).rising both_rises (λ p. h.pages p ∙ sym (both_pages p))

    union_few : length (union (shown a) (shown b)) ≤ 32
    union_few = let t = (normal_fact r h.normal).tidy in omega (arith, ap length union_is, shown_length r t, t.short)

  union_many : Over32 (λ p. member a p || member b p) → 32 < length (union (shown a) (shown b))
  union_many over =
      ⊎_elim (λ k. k)
      (λ k. absurd (over (held both) (record {
        normal = normal_test (held both) (held_normal both k both_rises (both_pages 0 ∙ ap₂ ◌||◌ (normal_fact a ea).no_zero (normal_fact b eb).no_zero));
        pages = λ p. ap (λ (l : List Window). holds l p) (held_shown both) ∙ both_pages p;
      })))
      (lt_or 32 (length both))

-- ---- two ranges as one

module _ (a b : SegmentRange) (ea : normal a.pages ≡ true) (eb : normal b.pages ≡ true) (u : SetAnswer) where
  pub joined_over : GivesOr22 u (done (λ p. member a.pages p || member b.pages p)) → (u.code ≡ 0 → ⊥) → Tells (Err Refusal.TooWide) (joined_part (some (both_of a b)))
  joined_over (inl h) n = absurd (n h.0)
  joined_over (inr h) n = rw (lt-leb (length (union (shown a.pages) (shown b.pages))) 32 (union_many a.pages b.pages ea eb h.1)) (record { says = refl; form = refl })

  pub joined_set : GivesOr22 u (done (λ p. member a.pages p || member b.pages p)) → u.code ≡ 0
      → Tells (Ok (Some (record { sid = a.sid; start = a.start; end = b.end; pages = u.set }))) (joined_part (some (both_of a b)))
  joined_set (inl h) e =
      rw (le-leb (length (union (shown a.pages) (shown b.pages))) 32 (union_few a.pages b.pages ea eb u.set h.1))
      (tells_found _ _ (record {
        says = ap (λ (ws : Pages). record { sid = a.sid; start = a.start; end = b.end; pages = ws }) (union_is a.pages b.pages ea eb u.set h.1);
        normal = h.1.normal;
      }))
  joined_set (inr h) e = absurd (let z : u.code ≡ 22 = ap (λ (x : SetAnswer). x.code) h.0 in omega arith)

-- ---- the rule, at each of the code's answers

module _ (a b : SegmentRange) where
  rule_two : (leb a.start a.end && leb b.start b.end) ≡ false → refused 2 ≡ join_rule a b
  unfolding join_rule
  rule_two e = rw e

  pub tells_left : a.end < a.start → Tells (Err Refusal.Reversed) (join_rule a b)
  tells_left l = record { says = rule_two (and_left _ (leb b.start b.end) (lt-leb a.start a.end l)); form = refl }

  pub tells_right : b.end < b.start → Tells (Err Refusal.Reversed) (join_rule a b)
  tells_right l = record { says = rule_two (and_right (leb a.start a.end) _ (lt-leb b.start b.end l)); form = refl }

  module _ (la : a.start ≤ a.end) (lb : b.start ≤ b.end) where
    order_test : (leb a.start a.end && leb b.start b.end) ≡ true
    order_test = and_both _ _ (le-leb a.start a.end la) (le-leb b.start b.end lb)

    rule_three : (normal a.pages && normal b.pages) ≡ false → refused 3 ≡ join_rule a b
    unfolding join_rule
    rule_three e = rw (order_test, e)

    pub tells_first : normal a.pages ≡ false → Tells (Err Refusal.Form) (join_rule a b)
    tells_first e = record { says = rule_three (and_left _ (normal b.pages) e); form = refl }

    pub tells_second : normal b.pages ≡ false → Tells (Err Refusal.Form) (join_rule a b)
    tells_second e = record { says = rule_three (and_right (normal a.pages) _ e); form = refl }

    module _ (ea : normal a.pages ≡ true) (eb : normal b.pages ≡ true) where
      rule_touch : joined_part (touching (range_says a) (range_says b)) ≡ join_rule a b
      unfolding join_rule join
      rule_touch = rw (order_test, and_both _ _ ea eb, and_both _ _ (shown_form a.pages ea) (shown_form b.pages eb))

      tells : (r : Result (Maybe SegmentRange) Refusal) (o : Option Part) → o ≡ touching (range_says a) (range_says b) → Tells r (joined_part o) → Tells r (join_rule a b)
      tells r o q h = rw (← rule_touch, ← q) h

      tells_none : none ≡ touching (range_says a) (range_says b) → Tells (Ok None) (join_rule a b)
      tells_none q = tells (Ok None) none q (record { says = refl; form = refl })

      pub tells_other : is_equal (lex a.sid b.sid) ≡ false → Tells (Ok None) (join_rule a b)
      tells_other e = tells_none (let k = sym (id_is a.sid b.sid) ∙ e in rw k)

      module _ (e : is_equal (lex a.sid b.sid) ≡ true) where
        same_test : same_id a.sid b.sid ≡ true
        same_test = sym (id_is a.sid b.sid) ∙ e

        pub tells_after : (r : Result (Maybe SegmentRange) Refusal) → a.end ≡ b.start → Tells r (joined_part (some (both_of a b))) → Tells r (join_rule a b)
        tells_after r t h = tells r (some (both_of a b)) (rw (same_test, eq-eqb a.end b.start t)) h

        pub tells_before : (r : Result (Maybe SegmentRange) Refusal) → (a.end ≡ b.start → ⊥) → b.end ≡ a.start → Tells r (joined_part (some (both_of b a))) → Tells r (join_rule a b)
        tells_before r n t h =
            let i : b.sid ≡ a.sid = sym (bytes_lawful.same a.sid b.sid (eq_of (bytes a.sid b.sid) same_test)) in
            let k : some (both_of b a) ≡ some (record { sid = a.sid; start = b.start; end = a.end; pages = union (shown b.pages) (shown a.pages) }) =
            ap (λ (x : List ℕ). some (record { sid = x; start = b.start; end = a.end; pages = union (shown b.pages) (shown a.pages) })) i in
            tells r (some (both_of b a)) (k ∙ rw (same_test, ne_eqb a.end b.start n, eq-eqb b.end a.start t)) h

        pub tells_apart : (a.end ≡ b.start → ⊥) → (b.end ≡ a.start → ⊥) → Tells (Ok None) (join_rule a b)
        tells_apart n m = tells_none (rw (same_test, ne_eqb a.end b.start n, ne_eqb b.end a.start m))
