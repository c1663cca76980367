-- The pages of a set strictly rise: they are those that it holds of the numbers from 0 on, in their order.
use Prim.Native.Nat.{ℕ, zero, suc, ◌+◌, ◌^◌, ◌≤◌, ◌<◌}
use mathlib.Core.Path.{◌≡◌, sym, subst}
use mathlib.Core.Bool.{Bool, true, false, cond}
use mathlib.Core.List.{List, [], ◌∷◌}
use native.Mathlib.Omega.{arith}
use Rattle.pageset.specs.declared.PageSet.{PageSet}
use Rattle.pageset.specs.Sets.{holds, shown, normal}
use Rattle.rules.specs.Lists.{those}
use Rattle.rules.specs.Pages.{numbers, pages_in}
use Rattle.rules.proofs.PageCounts.{pages_listed}
use Rattle.pageset.proofs.FormLaws.{shown_form}

-- numbers that strictly rise from at least lo, all below hi
abbrev pub Climbs : ℕ → ℕ → List ℕ → Type 0
Climbs lo hi [] = Unit {0}
Climbs lo hi (p ∷ ps) = (lo ≤ p) × (p < hi) × Climbs (p + 1) hi ps

climbs_from : (a b hi : ℕ) (ps : List ℕ) → b ≤ a → Climbs a hi ps → Climbs b hi ps
climbs_from a b hi [] l c = tt
climbs_from a b hi (p ∷ ps) l c = (omega (arith, c.0), c.1, c.2)

climbs_those : (f : ℕ → Bool) (a n hi : ℕ) → a + n ≤ hi → Climbs a hi (those f (numbers a n))
unfolding those numbers
climbs_those f a zero hi l = tt
climbs_those f a (suc n) hi l = go (f a) (climbs_those f (suc a) n hi (omega arith))
  where
    go : (b : Bool) → Climbs (suc a) hi (those f (numbers (suc a) n)) → Climbs a hi (cond b (a ∷ those f (numbers (suc a) n)) (those f (numbers (suc a) n)))
    go true c = (omega arith, omega arith, climbs_from (suc a) (a + 1) hi (those f (numbers (suc a) n)) (omega arith) c)
    go false c = climbs_from (suc a) a hi (those f (numbers (suc a) n)) (omega arith) c

pub pages_climb : (s : PageSet) → normal s ≡ true → Climbs 0 (2 ^ 32) (pages_in (shown s))
pages_climb s e =
    subst (λ (ps : List ℕ). Climbs 0 (2 ^ 32) ps) (sym (pages_listed (shown s) (shown_form s e))) (climbs_those (holds (shown s)) 0 (2 ^ 32) (2 ^ 32) (omega arith))
