-- The rules of page sets refuse by 1, 2 and 3 only: each is a chain of these checks, of which some are left out. Assumes nothing.
use Rattle.std.proofs.Common.{ℕ, Bool, true, false, not, ◌&&◌, ◌||◌, eqb, leb, arith}
use Rattle.basics.specs.Answers.{done, ask, ◌>>◌}
use Rattle.basics.specs.Numbers.{counts}
use Rattle.pageset.specs.declared.PageSet.{PageSet}
use Rattle.pageset.specs.Sets.{member, normal}
use Rattle.pageset.specs.Rules.{within, range_rule, insert_rule, union_rule, truncate_rule, remove_rule}
use Rattle.arguments.proofs.SetLaws.{Early}

checked : {A : Type 0} (b c d : Bool) (a : A) → Early (ask b 1 >> (ask c 2 >> (ask d 3 >> done a)))
checked true true true a = tt
checked true true false a = (omega arith, omega arith)
checked true false d a = (omega arith, omega arith)
checked false c d a = (omega arith, omega arith)

pub range_early : (a b : ℕ) → Early (range_rule a b)
unfolding range_rule
range_early a b = checked (counts a && counts b) (leb a b) true (within a b)

pub insert_early : (s : PageSet) (p : ℕ) → Early (insert_rule s p)
unfolding insert_rule
insert_early s p = checked (counts p) true (normal s) (λ (q : ℕ). member s q || eqb q p)

pub union_early : (s t : PageSet) → Early (union_rule s t)
unfolding union_rule
union_early s t = checked true true (normal s && normal t) (λ (p : ℕ). member s p || member t p)

pub truncate_early : (s : PageSet) (n : ℕ) → Early (truncate_rule s n)
unfolding truncate_rule
truncate_early s n = checked true true (normal s) (λ (p : ℕ). member s p && leb p n)

pub remove_early : (s : PageSet) (a b : ℕ) → Early (remove_rule s a b)
unfolding remove_rule
remove_early s a b = checked (counts a && counts b) (leb a b) (normal s) (λ (p : ℕ). member s p && not (within a b p))
