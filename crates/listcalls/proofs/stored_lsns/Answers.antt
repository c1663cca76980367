-- 20, 1, 2, then the run of the range's commits: 19 where it has more than the list has places, else its LSNs. Assumes nothing.
use Rattle.std.proofs.Common.{sym, ◌∙◌, arith}
use Rattle.layout.specs.Codecs.{number}
use Rattle.layout.proofs.LentLaws.{lent_no}
use Rattle.resultlists.proofs.EntryLaws.{slots_room}
use Rattle.resultlists.proofs.AnswerLaws.{left_refused}
use Rattle.listcalls.proofs.RangeLaws.{run_few, stored_1, stored_2, stored_short, stored_put}
use Rattle.listcalls.proofs.stored_lsns.Goals as goal

pub returns-then-not-commits_formed : goal.returns-then-not-commits_formed
returns-then-not-commits_formed c = left_refused (number 8) _ _ _ 20 (lent_no _ _ (sym c.commits_formed.ensures ∙ c.if-not-commits_formed.true))

pub returns-then-not-has_lsns : goal.returns-then-not-has_lsns
returns-then-not-has_lsns c = left_refused (number 8) _ _ _ 1 (stored_1 c.args.commits.now (sym c.commits_formed.ensures ∙ c.if-not-commits_formed.false) _ _ (sym c.has_lsns.ensures ∙ c.if-not-has_lsns.true))

pub returns-then-not-is_ordered : goal.returns-then-not-is_ordered
returns-then-not-is_ordered c = left_refused (number 8) _ _ _ 2 (stored_2 c.args.commits.now (sym c.commits_formed.ensures ∙ c.if-not-commits_formed.false) _ _ (sym c.has_lsns.ensures ∙ c.if-not-has_lsns.false) (sym c.is_ordered.ensures ∙ c.if-not-is_ordered.true))

pub places_of-run-requires : goal.places_of-run-requires
places_of-run-requires c = sym c.commits_formed.ensures ∙ c.if-not-commits_formed.false

pub returns-then-list-n : goal.returns-then-list-n
returns-then-list-n c = stored_short c.args.commits.now (sym c.commits_formed.ensures ∙ c.if-not-commits_formed.false) _ c.places_of-run.result.from c.places_of-run.result.to c.places_of-run.ensures (sym c.has_lsns.ensures ∙ c.if-not-has_lsns.false) (sym c.is_ordered.ensures ∙ c.if-not-is_ordered.false) _ _ c.if-list-n.true

pub put_lsns-requires : goal.put_lsns-requires
put_lsns-requires c = ((sym c.commits_formed.ensures ∙ c.if-not-commits_formed.false), c.places_of-run.ensures.below, c.places_of-run.ensures.inside, slots_room 8 _ c.args.list.now c.if-list-n.false)

pub overflow_cast-items : goal.overflow_cast-items
overflow_cast-items c =
    let few = run_few c.args.commits.now (sym c.commits_formed.ensures ∙ c.if-not-commits_formed.false) _ c.places_of-run.result.from c.places_of-run.result.to c.places_of-run.ensures in
    omega arith

pub returns : goal.returns
returns c = stored_put c.args.commits.now (sym c.commits_formed.ensures ∙ c.if-not-commits_formed.false) _ c.places_of-run.result.from c.places_of-run.result.to c.places_of-run.ensures (sym c.has_lsns.ensures ∙ c.if-not-has_lsns.false) (sym c.is_ordered.ensures ∙ c.if-not-is_ordered.false) c.args.list.now c.args.items.now c.if-list-n.false _ c.put_lsns.ensures
