-- The walk gives a page within the count to the first commit of the path that holds it, and to no other. Going down the path, the commits met so
-- far are kept in a list: a page that one of them holds is given to none of the rest; else the first that holds it gets it.
use Rattle.std.proofs.Common.{◌≡◌, ℕ, Bool, true, false, cond, not, ◌&&◌, ◌||◌, leb, List, [], ◌∷◌, ◌++◌, sym, refl, ◌∙◌}
use mathlib.Core.Option.{Option, none, some}
use mathlib.Core.Bool.{and-true, and-false}
use Rattle.pageset.specs.Sets.{holds, rising}
use Rattle.rules.specs.Lists.{first, those, any, all}
use Rattle.rules.specs.Records.{Pages, Commit, Segment, commit_key}
use Rattle.rules.specs.Pages.{is_empty, truncated, minus}
use Rattle.rules.specs.Write.{pages_of}
use Rattle.rules.specs.Walk.{Item, not_taken, gift, item_of, walk_from}
use Rattle.rules.specs.Demand.{commit_holds, givers, named}
use Rattle.rules.proofs.TableLaws.{cases, and_fst, and_snd, those_append, map-append}
use Rattle.rules.proofs.PageLaws.{rising_masked, holds_truncated, holds_minus, holds_empty, empty_holds}

-- the windows of a commit's set rise
abbrev pub set_rises : Commit → Bool
set_rises c = rising 0 (pages_of c.segment)

less : (m a h : Bool) → m && not a && not h ≡ m && not (h || a)
less true true true = refl
less true true false = refl
less true false true = refl
less true false false = refl
less false a h = refl

rising_not_taken : (s : Pages) (cs : List Commit) → rising 0 s ≡ true → rising 0 (not_taken s cs) ≡ true
unfolding minus
rising_not_taken s [] up = up
rising_not_taken s (c ∷ cs) up = rising_masked _ 0 (not_taken s cs) (rising_not_taken s cs up)

holds_not_taken : (s : Pages) (p : ℕ) (cs : List Commit) → rising 0 s ≡ true → holds (not_taken s cs) p ≡ holds s p && not (any (commit_holds p) cs)
unfolding any commit_holds
holds_not_taken s p [] up = sym (and-true (holds s p))
holds_not_taken s p (c ∷ cs) up =
    rw (holds_minus 0 (not_taken s cs) (rising_not_taken s cs up) (pages_of c.segment) p, holds_not_taken s p cs up) (less (holds s p) (any (commit_holds p) cs) (commit_holds p c))

holds_gift : (n : ℕ) (earlier : List Commit) (c : Commit) (p : ℕ) → set_rises c ≡ true → holds (gift n earlier c) p ≡ commit_holds p c && leb p n && not (any (commit_holds p) earlier)
unfolding commit_holds truncated
holds_gift n earlier c p up =
    rw (holds_not_taken (truncated (pages_of c.segment) n) p earlier (rising_masked _ 0 (pages_of c.segment) up), holds_truncated 0 (pages_of c.segment) up n p)

given_to : (p : ℕ) (c : Commit) (o : Option Segment) (g : Pages) → (o ≡ none → holds g p ≡ false) → givers p (item_of c o g) ≡ cond (holds g p) (commit_key c ∷ []) []
unfolding those
given_to p c none g h = rw (h refl)
given_to p c (some s) g h =
    cases (is_empty g) (λ e. rw (e, empty_holds g p e)) (λ e. cases (holds g p) (λ m. rw (e, m)) (λ m. rw (e, m)))

givers_append : (p : ℕ) (l m : List Item) → givers p (l ++ m) ≡ givers p l ++ givers p m
givers_append p l m = rw (those_append, map-append)

-- a commit with no segment holds nothing
no_segment : (c : Commit) (p : ℕ) → c.segment ≡ none → commit_holds p c ≡ false
unfolding commit_holds
no_segment c p e = rw e (holds_empty p)

pub walk_from_lem : (p n : ℕ) (earlier cs : List Commit) → all set_rises cs ≡ true → leb p n ≡ true
    → givers p (walk_from n earlier cs) ≡ cond (any (commit_holds p) earlier) [] (named (first (commit_holds p) cs))
unfolding first any those all
walk_from_lem p n earlier [] up h = cases (any (commit_holds p) earlier) (λ a. rw a) (λ a. rw a)
walk_from_lem p n earlier (c ∷ cs) up h =
    let g : holds (gift n earlier c) p ≡ commit_holds p c && not (any (commit_holds p) earlier) = holds_gift n earlier c p (and_fst (set_rises c) (all set_rises cs) up) ∙ rw (h, and-true) in
    let rest = walk_from_lem p n (c ∷ earlier) cs (and_snd (set_rises c) (all set_rises cs) up) h in
    let one = given_to p c c.segment (gift n earlier c) (λ e. rw (g, no_segment c p e)) in
    givers_append p (item_of c c.segment (gift n earlier c)) (walk_from n (c ∷ earlier) cs)
    ∙ cases (commit_holds p c) (λ k. rw (one, rest, g, k) (cases (any (commit_holds p) earlier) (λ a. rw a) (λ a. rw a))) (λ k. rw (one, rest, g, k))

-- past the count the walk gives a page to none
pub walk_past : (p n : ℕ) (earlier cs : List Commit) → all set_rises cs ≡ true → leb p n ≡ false → givers p (walk_from n earlier cs) ≡ []
unfolding those all
walk_past p n earlier [] up h = refl
walk_past p n earlier (c ∷ cs) up h =
    let g : holds (gift n earlier c) p ≡ false = holds_gift n earlier c p (and_fst (set_rises c) (all set_rises cs) up) ∙ rw (h, and-false) in
    givers_append p (item_of c c.segment (gift n earlier c)) (walk_from n (c ∷ earlier) cs)
    ∙ rw (given_to p c c.segment (gift n earlier c) (λ e. g), g, walk_past p n (c ∷ earlier) cs (and_snd (set_rises c) (all set_rises cs) up) h)
