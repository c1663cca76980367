-- The first page of a set is not 0. Assumes nothing.
use Rattle.std.proofs.Common.{sym, ap, ◌∙◌, arith}
use Rattle.basics.specs.Says.{maybe_page_says}
use Rattle.frames.proofs.FrameLaws.{starts_at, starts_one}
use Rattle.frames.proofs.before_first.Goals as goal

pub overflow_sub-result : goal.overflow_sub-result
overflow_sub-result c = let e = ap maybe_page_says (sym c.in-Some.is) ∙ c.first-first.ensures in omega (arith, (starts_at c.args.pages c.requires _ e).0)

pub returns-in-Some : goal.returns-in-Some
returns-in-Some c =
    let e = ap maybe_page_says (sym c.in-Some.is) ∙ c.first-first.ensures in
    let h = starts_at c.args.pages c.requires _ e in
    omega (arith, h.0, h.1)

pub returns-in-None : goal.returns-in-None
returns-in-None c = starts_one c.args.pages c.requires (ap maybe_page_says (sym c.in-None.is) ∙ c.first-first.ensures)
