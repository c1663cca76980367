-- The number of ranges is tested, and then each place past them. Assumes nothing.
use Rattle.std.proofs.Common.{◌≡◌, ◌-◌, length, take, drop, ◌∙◌, arith, length-drop, take_all, le-leb, rules, tests}
use borrow.Author.Tests.{lt-leb}
use Rattle.std.proofs.lemmas.Iterator.{YieldsList-from_slice}
use Rattle.std.proofs.lemmas.Iterator.Search.{all_from_yields_List}
use Rattle.volume.specs.Snapshots.{is_zero_range, in_form}
use Rattle.volume.proofs.PathLaws.{all_listed}
use Rattle.volume.proofs.snapshot.Snapshot.is_formed.Goals as goal

pub returns-then-self-gt8 : goal.returns-then-self-gt8
unfolding in_form
returns-then-self-gt8 c = rw (lt-leb c.args.self.len 8 c.if-self-gt8.true)

pub returns : goal.returns
unfolding in_form
returns c =
    let s = c.args.self in
    let past = drop s.len s.path in
    let whole : take (length s.path - s.len) past ≡ past = take_all (length s.path - s.len) past (simp length-drop (omega arith)) in
    rw (le-leb s.len 8 c.if-self-gt8.false)
    (all_from_yields_List is_zero_range _ _ c.all.result c.all.ensures.ran (YieldsList-from_slice past (cc)) (λ x b q k. search (rules, tests)) ∙ all_listed is_zero_range past)
