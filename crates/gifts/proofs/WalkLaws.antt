-- The walk goes by steps: from a number of the path on, its items are those from the next number on, behind the item of the step; and there are none where the step finds
-- none. By induction on how many commits are left: a commit whose gift is empty is no item, and the step goes on to the next.
use Rattle.std.proofs.Common.{Option as Maybe, Some, None}
use Rattle.std.specs.Prelude.{◌≡◌, ℕ, zero, suc, ◌+◌, ◌<◌, ◌≤◌, true, false, List, [], ◌∷◌, ◌++◌, length, drop}
use mathlib.Core.Path.{refl, sym, ap, ◌∙◌, subst}
use mathlib.Core.Option.{Option, none, some}
use native.Mathlib.Omega.{arith}
use lib.ListN.{length-map}
use Rattle.pageset.specs.declared.PageSet.{PageSet}
use Rattle.pageset.specs.Says.{empty_set}
use Rattle.pageset.specs.Sets.{shown, normal, normal_form}
use Rattle.rules.specs.Lists.{is_some}
use Rattle.rules.specs.Records.{Pages, Segment, Commit, Snapshot}
use Rattle.rules.specs.Pages.{is_empty, masked, truncated, minus}
use Rattle.rules.specs.Write.{pages_of}
use Rattle.rules.specs.Walk.{Item, not_taken, gift, item_of, walk_from, walk_of}
use Rattle.rules.proofs.TableLaws.{cases, options, clash}
use Rattle.rules.proofs.PageCounts.{truncated_normal}
use Rattle.table.specs.Table.{count_of}
use Rattle.table.specs.declared.Run.{Run}
use Rattle.layout.specs.Tables.{commits_in, commits_ok}
use Rattle.setbytes.specs.Laid.{set_laid}
use Rattle.setbytes.proofs.LaidLaws.{says_laid, laid_normal}
use Rattle.commits.specs.Places.{commit_at}
use Rattle.gifts.specs.Paths.{places_in, place_at, Inside, commits_at, PathOf, before}
use Rattle.gifts.specs.Steps.{step_from, found_from, segment_of, item_at, items_from}
use Rattle.gifts.specs.declared.Step.{Step}
use Rattle.gifts.specs.declared.Found.{Found}
use Rattle.gifts.proofs.SetLaws.{row_normal, not_taken_normal, minus_none}
use Rattle.gifts.proofs.StepLaws.{place_left, place_few, place_below, place_none, before_next, step_end, step_here, step_on}

-- ---- items

-- no segment, no gift
nothing_left : (cs : List Commit) → not_taken [] cs ≡ []
nothing_left [] = refl
nothing_left (c ∷ cs) = ap (λ (x : Pages). minus x (pages_of c.segment)) (nothing_left cs) ∙ minus_none (pages_of c.segment)

no_gift : (count : ℕ) (earlier : List Commit) (c : Commit) → c.segment ≡ none → gift count earlier c ≡ []
unfolding truncated masked
no_gift count earlier c e = ap (λ (o : Option Segment). not_taken (truncated (pages_of o) count) earlier) e ∙ nothing_left earlier

-- an empty gift is left out
left_out : (c : Commit) (o : Option Segment) (g : Pages) → is_empty g ≡ true → item_of c o g ≡ []
left_out c none g e = refl
left_out c (some s) g e = rw e

one_item : (c : Commit) (o : Option Segment) (g : Pages) → is_some o ≡ true → is_empty g ≡ false → item_of c o g ≡ record { log = c.log; lsn = c.lsn; segment = segment_of o; pages = g } ∷ []
one_item c none g q e = absurd (clash q refl)
one_item c (some s) g q e = rw e

-- a place, or none
placed : {P : Type 0} (x : Maybe ℕ) → (x ≡ None → P) → ((i : ℕ) → x ≡ Some i → P) → P
placed None f g = f refl
placed (Some i) f g = g i refl

no_place : {P : Type 0} (x : Maybe ℕ) (i : ℕ) → x ≡ None → x ≡ Some i → P
no_place x i p q = let z : ◌≡◌ {A = ℕ} 0 1 = cc in absurd (omega arith)

-- the last step found none at the end of the path
pub items_none : (t ps : List ℕ) (count k : ℕ) → place_at k ps ≡ None → items_from t count ps k ≡ []
unfolding items_from
items_none t ps count k e = ap (λ (l : List ℕ). walk_from count (before k (commits_at t ps)) (commits_at t l)) (place_none k ps e)

module _ (t ps : List ℕ) (ok : commits_ok t ≡ true) (inside : Inside t ps) (count : ℕ) where
  abbrev gave : ℕ → ℕ → Pages
  gave k i = gift count (before k (commits_at t ps)) (commit_at t i)

  -- the items from k on: that of number k, if it is one, and those from the next number on
  items_here : (k i : ℕ) → place_at k ps ≡ Some i → items_from t count ps k ≡ item_of (commit_at t i) (commit_at t i).segment (gave k i) ++ items_from t count ps (k + 1)
  unfolding items_from
  items_here k i e =
      ap (λ (l : List ℕ). walk_from count (before k (commits_at t ps)) (commits_at t l)) (place_left k i ps e)
      ∙ ap (λ (l : List Commit). item_of (commit_at t i) (commit_at t i).segment (gave k i) ++ walk_from count l (commits_at t (drop (k + 1) ps))) (sym (before_next t ps k i e))

  gave_normal : (k i : ℕ) → i < count_of t → normal_form (gave k i) ≡ true
  gave_normal k i l = not_taken_normal (truncated (pages_of (commit_at t i).segment) count) (before k (commits_at t ps)) (truncated_normal (pages_of (commit_at t i).segment) count (row_normal t ok i l))

  -- what a step from k says where it finds record i
  pub record Stepped (k : ℕ) (s : Step) (g : Pages) (i : ℕ) : Type 0 where
    pub has : is_some (commit_at t i).segment ≡ true
    pub below : i < count_of t
    pub normal : normal_form g ≡ true
    pub items : items_from t count ps k ≡ item_at t i g ∷ items_from t count ps s.next
    pub later : k < s.next
    pub few : s.next ≤ length ps

  abbrev Went : ℕ → Step × Pages → ℕ → Type 0
  Went k x i = Stepped k x.0 x.1 i

  -- number k gets pages
  module _ (k i : ℕ) (e : place_at k ps ≡ Some i) (h : is_empty (gave k i) ≡ false) where
    inner : i < count_of t
    inner = place_below (count_of t) k i ps inside.below e

    has_one : is_some (commit_at t i).segment ≡ true
    has_one = options (commit_at t i).segment (λ q. absurd (clash (ap is_empty (no_gift count (before k (commits_at t ps)) (commit_at t i) q)) h)) (λ s q. ap (λ (o : Option Segment). is_some o) q)

    given : Went k (record { at = Some i; next = k + 1 }, gave k i) i
    given = record {
      has = has_one;
      below = inner;
      normal = gave_normal k i inner;
      items =
          items_here k i e
          ∙ ap (λ (l : List Item). l ++ items_from t count ps (k + 1)) (one_item (commit_at t i) (commit_at t i).segment (gave k i) has_one h);
      later = omega arith;
      few = omega (arith, place_few k i ps e);
    }

  -- number k gets none
  module _ (k p : ℕ) (e : place_at k ps ≡ Some p) (h : is_empty (gave k p) ≡ true) where
    skips : items_from t count ps k ≡ items_from t count ps (k + 1)
    skips = items_here k p e ∙ ap (λ (l : List Item). l ++ items_from t count ps (k + 1)) (left_out (commit_at t p) (commit_at t p).segment (gave k p) h)

    steps_on : (i : ℕ) → Went (k + 1) (step_from t count ps (k + 1)) i → Went k (step_from t count ps k) i
    steps_on i r = subst (λ (x : Step × Pages). Went k x i) (sym (step_on t ps count k p e h)) (record {
      has = r.has;
      below = r.below;
      normal = r.normal;
      items = skips ∙ r.items;
      later = omega (arith, r.later);
      few = r.few;
    })

  found_by_lem : (n k : ℕ) → length ps ≤ k + n → (i : ℕ) → (step_from t count ps k).0.at ≡ Some i → Went k (step_from t count ps k) i
  found_by_lem zero k h i e =
      placed (place_at k ps) (λ m. no_place (step_from t count ps k).0.at i (ap (λ (x : Step × Pages). x.0.at) (step_end t ps count k m)) e) (λ p q. absurd (omega (arith, place_few k p ps q)))
  found_by_lem (suc n) k h i e =
      placed (place_at k ps) (λ m. no_place (step_from t count ps k).0.at i (ap (λ (x : Step × Pages). x.0.at) (step_end t ps count k m)) e)
      (λ p q. cases (is_empty (gave k p))
      (λ b. steps_on k p q b i (found_by_lem n (k + 1) (omega arith) i (ap (λ (x : Step × Pages). x.0.at) (sym (step_on t ps count k p q b)) ∙ e)))
      (λ b. let s = step_here t ps count k p q b in
      let z : p ≡ i = same_place p i (sym (ap (λ (x : Step × Pages). x.0.at) s) ∙ e) in
      subst (λ (j : ℕ). Went k (step_from t count ps k) j) z (subst (λ (x : Step × Pages). Went k x p) (sym s) (given k p q b))))
    where
      same_place : (p i : ℕ) → Some p ≡ Some i → p ≡ i
      same_place p i e = cc

  none_by : (n k : ℕ) → length ps ≤ k + n → (step_from t count ps k).0.at ≡ None → items_from t count ps k ≡ []
  none_by zero k h e = placed (place_at k ps) (λ m. items_none t ps count k m) (λ p q. absurd (omega (arith, place_few k p ps q)))
  none_by (suc n) k h e =
      placed (place_at k ps) (λ m. items_none t ps count k m)
      (λ p q. cases (is_empty (gave k p))
      (λ b. skips k p q b ∙ none_by n (k + 1) (omega arith) (ap (λ (x : Step × Pages). x.0.at) (sym (step_on t ps count k p q b)) ∙ e))
      (λ b. no_place (step_from t count ps k).0.at p e (ap (λ (x : Step × Pages). x.0.at) (step_here t ps count k p q b))))

  -- THE LAW OF STEPS
  module _ (k : ℕ) (s : Step) (r : s ≡ (step_from t count ps k).0) where
    pub step_found : (i : ℕ) → s.at ≡ Some i → Stepped k s (step_from t count ps k).1 i
    step_found i e = subst (λ (x : Step). Stepped k x (step_from t count ps k).1 i) (sym r) (found_by_lem (length ps) k (omega arith) i (ap (λ (x : Step). x.at) (sym r) ∙ e))

    pub step_none : s.at ≡ None → items_from t count ps k ≡ []
    step_none e = none_by (length ps) k (omega arith) (ap (λ (x : Step). x.at) (sym r) ∙ e)

  -- no gift where no commit gets one
  gone_by : (n k : ℕ) → length ps ≤ k + n → (step_from t count ps k).0.at ≡ None → (step_from t count ps k).1 ≡ []
  gone_by zero k h e = placed (place_at k ps) (λ m. ap (λ (x : Step × Pages). x.1) (step_end t ps count k m)) (λ p q. absurd (omega (arith, place_few k p ps q)))
  gone_by (suc n) k h e =
      placed (place_at k ps) (λ m. ap (λ (x : Step × Pages). x.1) (step_end t ps count k m))
      (λ p q. cases (is_empty (gave k p))
      (λ b. ap (λ (x : Step × Pages). x.1) (step_on t ps count k p q b) ∙ gone_by n (k + 1) (omega arith) (ap (λ (x : Step × Pages). x.0.at) (sym (step_on t ps count k p q b)) ∙ e))
      (λ b. no_place (step_from t count ps k).0.at p e (ap (λ (x : Step × Pages). x.0.at) (step_here t ps count k p q b))))

  -- what a step found, by value
  module _ (k : ℕ) (s : Step) (r : s ≡ (step_from t count ps k).0) where
    pub found_missing : (g : PageSet) → g ≡ empty_set → s.at ≡ None → record { at = None; next = s.next; gift = g } ≡ found_from t count ps k
    found_missing g z e =
        let n = gone_by (length ps) k (omega arith) (ap (λ (x : Step). x.at) (sym r) ∙ e) in
        ap (λ (x : PageSet). record { at = None; next = s.next; gift = x }) (z ∙ ap set_laid (sym n))
        ∙ ap (λ (x : Maybe ℕ). record { at = x; next = s.next; gift = set_laid (step_from t count ps k).1 }) (sym e)
        ∙ ap (λ (x : Step). record { at = x.at; next = x.next; gift = set_laid (step_from t count ps k).1 }) r

    pub found_is : (i : ℕ) (g : PageSet) (p : Pages) → s.at ≡ Some i → g ≡ set_laid p → p ≡ (step_from t count ps k).1 → record { at = Some i; next = s.next; gift = g } ≡ found_from t count ps k
    found_is i g p e z q =
        ap (λ (x : PageSet). record { at = Some i; next = s.next; gift = x }) (z ∙ ap set_laid q)
        ∙ ap (λ (x : Maybe ℕ). record { at = x; next = s.next; gift = set_laid (step_from t count ps k).1 }) (sym e)
        ∙ ap (λ (x : Step). record { at = x.at; next = x.next; gift = set_laid (step_from t count ps k).1 }) r

  -- the same of a gift by value
  pub record FoundAt (k : ℕ) (s : Found) (i : ℕ) : Type 0 where
    pub has : is_some (commit_at t i).segment ≡ true
    pub below : i < count_of t
    pub normal : normal s.gift ≡ true
    pub items : items_from t count ps k ≡ item_at t i (shown s.gift) ∷ items_from t count ps s.next
    pub later : k < s.next
    pub few : s.next ≤ length ps

  module _ (k : ℕ) (s : Found) (r : s ≡ found_from t count ps k) where
    pub found_at : (i : ℕ) → s.at ≡ Some i → FoundAt k s i
    found_at i e =
        let x = found_by_lem (length ps) k (omega arith) i (ap (λ (x : Found). x.at) (sym r) ∙ e) in
        let g = (step_from t count ps k).1 in
        subst (λ (x : Found). FoundAt k x i) (sym r) (record {
          has = x.has;
          below = x.below;
          normal = laid_normal g x.normal;
          items = x.items ∙ ap (λ (p : Pages). item_at t i p ∷ items_from t count ps (step_from t count ps k).0.next) (sym (says_laid g));
          later = x.later;
          few = x.few;
        })

    pub found_none : s.at ≡ None → items_from t count ps k ≡ []
    found_none e = none_by (length ps) k (omega arith) (ap (λ (x : Found). x.at) (sym r) ∙ e)

-- ---- the whole walk

-- at most an item for each commit
item_few : (c : Commit) (o : Option Segment) (g : Pages) (l : List Item) → length (item_of c o g ++ l) ≤ suc (length l)
item_few c none g l = omega arith
item_few c (some s) g l = cases (is_empty g) (λ e. rw e (omega arith)) (λ e. rw e (omega arith))

walk_few : (count : ℕ) (earlier cs : List Commit) → length (walk_from count earlier cs) ≤ length cs
walk_few count earlier [] = omega arith
walk_few count earlier (c ∷ cs) =
    omega (arith, item_few c c.segment (gift count earlier c) (walk_from count (c ∷ earlier) cs), walk_few count (c ∷ earlier) cs)

pub items_few : (t ps : List ℕ) (count : ℕ) → length (items_from t count ps 0) ≤ length ps
unfolding items_from
items_few t ps count = omega (arith, walk_few count [] (commits_at t ps), length-map ps (commit_at t))

-- the items from the start on are the rule's, where the places are the path's
pub items_all : (t : List ℕ) (s : Snapshot) (runs : List Run) → PathOf t s.path runs → items_from t s.count (places_in runs) 0 ≡ walk_of (commits_in t) s
unfolding items_from walk_of
items_all t s runs h = ap (walk_from s.count []) h.commits
