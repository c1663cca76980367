-- The calls on page sets, each with its numbers in their order (1, 2, 3, then 22) and the pages of its answer as a test.
use Rattle.std.specs.Prelude.{ℕ, ◌^◌, Bool, cond, not, ◌&&◌, ◌||◌, ◌==◌, nat_le}
use Rattle.std.proofs.Math.Option.{Option}
use Rattle.basics.specs.Answers.{Answer, ask, done, ◌>>◌}
use Rattle.basics.specs.Numbers.{counts}
use Rattle.pageset.specs.declared.PageSet.{PageSet}
use Rattle.pageset.specs.Sets.{member, normal}
use Rattle.pageset.specs.Counts.{count, lowest, highest, any_of, all_of}

-- page p lies from a to b
abbrev pub within : ℕ → ℕ → ℕ → Bool
within a b p = nat_le a p && nat_le p b

-- the number that a range of pages earns: 1 for page 0, 2 for a start above its end, else 0
unfoldable pub range_fault : ℕ → ℕ → ℕ
range_fault a b = cond (counts a && counts b) (cond (nat_le a b) 0 2) 1

-- the pages from a to b
unfoldable pub range_rule : ℕ → ℕ → Answer (ℕ → Bool)
range_rule a b = do
  ask (counts a && counts b) 1
  ask (nat_le a b) 2
  done (within a b)

-- the pages of s, and p
unfoldable pub insert_rule : PageSet → ℕ → Answer (ℕ → Bool)
insert_rule s p = do
  ask (counts p) 1
  ask (normal s) 3
  done (λ q. member s q || q == p)

-- whether the page was new; no where the insertion is refused with a number
unfoldable pub new_rule : PageSet → ℕ → ℕ → Bool
new_rule s p number = number == 0 && not (member s p)

-- the pages of either set
unfoldable pub union_rule : PageSet → PageSet → Answer (ℕ → Bool)
union_rule s u = do
  ask (normal s && normal u) 3
  done (λ p. member s p || member u p)

-- truncating to n removes pages above n (count 0 empties)
unfoldable pub truncate_rule : PageSet → ℕ → Answer (ℕ → Bool)
truncate_rule s n = do
  ask (normal s) 3
  done (λ p. member s p && nat_le p n)

-- cut gives the common pages
unfoldable pub cut_rule : PageSet → PageSet → Answer (ℕ → Bool)
cut_rule s u = do
  ask (normal s && normal u) 3
  done (λ p. member s p && member u p)

-- and removes them from the left set
unfoldable pub left_rule : PageSet → PageSet → Answer (ℕ → Bool)
left_rule s u = do
  ask (normal s && normal u) 3
  done (λ p. member s p && not (member u p))

-- the pages of s that do not lie from a to b
unfoldable pub remove_rule : PageSet → ℕ → ℕ → Answer (ℕ → Bool)
remove_rule s a b = do
  ask (counts a && counts b) 1
  ask (nat_le a b) 2
  ask (normal s) 3
  done (λ p. member s p && not (within a b p))

-- the number of pages of a set
unfoldable pub size_rule : PageSet → Answer ℕ
size_rule s = do
  ask (normal s) 3
  done (count (member s) (2 ^ 32))

-- the first page of a set, or nothing
unfoldable pub first_rule : PageSet → Answer (Option ℕ)
first_rule s = do
  ask (normal s) 3
  done (lowest (member s) (2 ^ 32))

-- the last page of a set, or nothing
unfoldable pub last_rule : PageSet → Answer (Option ℕ)
last_rule s = do
  ask (normal s) 3
  done (highest (member s) (2 ^ 32))

-- whether a page is in the set
unfoldable pub contains_rule : PageSet → ℕ → Answer Bool
contains_rule s p = do
  ask (counts p) 1
  ask (normal s) 3
  done (member s p)

-- whether some page from a to b is in the set
unfoldable pub any_rule : PageSet → ℕ → ℕ → Answer Bool
any_rule s a b = do
  ask (counts a && counts b) 1
  ask (nat_le a b) 2
  ask (normal s) 3
  done (any_of (λ p. within a b p && member s p) (2 ^ 32))

-- whether each page from a to b is in the set
unfoldable pub all_rule : PageSet → ℕ → ℕ → Answer Bool
all_rule s a b = do
  ask (counts a && counts b) 1
  ask (nat_le a b) 2
  ask (normal s) 3
  done (all_of (λ p. not (within a b p) || member s p) (2 ^ 32))
