-- `pagesdown::next_down` meets its contract, by whether the window under way has a page left.
use borrow.Author.Tests.{eq-eqb, ne_eqb}
use Rattle.pagesdown.proofs.next_down.Goals as goal

pub take_last-last-requires : goal.take_last-last-requires
take_last-last-requires c =
    let p = rw (eq-eqb c.args.w.mask 0 c.if-w-eq0.true) at c.requires in
    (p.0, p.1)

pub returns-then-w-eq0 : goal.returns-then-w-eq0
returns-then-w-eq0 c =
    let e = eq-eqb c.args.w.mask 0 c.if-w-eq0.true in
    record { last = rw e c.take_last-last.ensures; begun = rw e }

pub take_last-last-requires-2 : goal.take_last-last-requires-2
take_last-last-requires-2 c =
    let p = rw (ne_eqb c.args.w.mask 0 c.if-w-eq0.false) at c.requires in
    (p.0, p.1)

pub returns : goal.returns
returns c =
    let e = ne_eqb c.args.w.mask 0 c.if-w-eq0.false in
    record { last = rw e c.take_last-last-2.ensures; begun = rw e }
