-- A count is at most the last page, so the count that std stops at is the last page. Assumes nothing.
use native.Mathlib.Omega.{arith}
use Rattle.basics.specs.Numbers.{last_page, next_count}
use Rattle.basics.proofs.page_count.PageCount.saturating_incr.Goals as goal

pub returns : goal.returns
unfolding last_page next_count
returns c = omega arith
