-- A place for every commit is one for every item; else they are counted.
use Rattle.std.proofs.Common.{ℕ, leb, length, sym, ap, ◌∙◌, arith, le-leb, leb-true}
use Rattle.gifts.specs.Paths.{places_in}
use Rattle.gifts.specs.Steps.{items_from}
use Rattle.gifts.proofs.WalkLaws.{items_few}
use Rattle.walkcalls.proofs.has_room.Goals as goal

pub returns-then-at_most : goal.returns-then-at_most
returns-then-at_most c = sym (le-leb (length (items_from c.args.commits.now c.args.count.0 (places_in c.args.path.runs) 0)) c.args.slots (omega (arith, items_few c.args.commits.now (places_in c.args.path.runs) c.args.count.0, leb-true (length (places_in c.args.path.runs)) c.args.slots (sym c.at_most.ensures ∙ c.if-at_most.true))))

pub returns : goal.returns
returns c = ap (λ (m : ℕ). leb m c.args.slots) c.count_items.ensures
