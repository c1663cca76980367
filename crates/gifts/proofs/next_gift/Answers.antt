-- The step from `from` on is that from k on, and the notes are those of the commits before number k. Without a place it is the end; an empty gift goes on to the next number. The measure is the commits
-- that are left.
use mathlib.Core.Path.{refl, sym, ap, ◌∙◌}
use native.Mathlib.Omega.{arith}
use borrow.Author.Tests.{not-true, not-false}
use Rattle.table.specs.Table.{count_of}
use Rattle.rules.specs.Records.{Pages}
use Rattle.gifts.specs.Paths.{places_in}
use Rattle.gifts.specs.declared.Step.{Step}
use Rattle.gifts.proofs.StepLaws.{place_few, place_below, gift_in_none, gift_in, step_end, step_here, step_on}
use Rattle.gifts.proofs.HeldLaws.{known_next}
use Rattle.gifts.proofs.next_gift.Goals as goal

pub loop-i-init : goal.loop-i-init
loop-i-init c = (refl, c.requires.known)

pub returns-in_default : goal.returns-in_default
returns-in_default c = let l = c.loop-i in
    let e = l.invariant.0 ∙ step_end c.args.commits.now (places_in c.args.path.runs) c.args.count.0 l.k (sym c.at.ensures ∙ c.in_default.is) in record { value = sym (ap (λ (x : Step × Pages). x.0) e); gift_in = gift_in_none c.args.commits.now l.left _; known_2 = l.invariant.1 }

pub make_gift-some-requires : goal.make_gift-some-requires
make_gift-some-requires c = let ps = places_in c.args.path.runs in
    let l = c.loop-i in
    let p = sym c.at.ensures ∙ c.in-Some.is in record { commits_value = (c.requires.commits_value.0, c.requires.commits_value.1, place_below (count_of c.args.commits.now) l.k c.in-Some.i ps c.requires.commits_value.1.below p, omega (arith, place_few l.k c.in-Some.i ps p)); known = l.invariant.1 }

pub overflow_add-k : goal.overflow_add-k
overflow_add-k c = omega (arith, place_few c.loop-i.k c.in-Some.i (places_in c.args.path.runs) (sym c.at.ensures ∙ c.in-Some.is), c.requires.commits_value.1.few)

pub returns-then-some : goal.returns-then-some
returns-then-some c = let t = c.args.commits.now in
    let ps = places_in c.args.path.runs in
    let l = c.loop-i in
    let i = c.in-Some.i in
    let p = sym c.at.ensures ∙ c.in-Some.is in
    let m = c.make_gift-some.ensures in
    let e = l.invariant.0 ∙ step_here t ps c.args.count.0 l.k i p (not-true _ (sym m.value ∙ c.if-some.true)) in record { value = sym (ap (λ (x : Step × Pages). x.0) e); gift_in = gift_in t i _ _ (m.left_after ∙ sym (ap (λ (x : Step × Pages). x.1) e)); known_2 = known_next t ps l.k i p _ m.known_2 }

pub loop-i-smaller : goal.loop-i-smaller
loop-i-smaller c = omega (arith, place_few c.loop-i.k c.in-Some.i (places_in c.args.path.runs) (sym c.at.ensures ∙ c.in-Some.is))

pub loop-i-preserved : goal.loop-i-preserved
loop-i-preserved c =
    let t = c.args.commits.now in
    let ps = places_in c.args.path.runs in
    let l = c.loop-i in
    let i = c.in-Some.i in
    let p = sym c.at.ensures ∙ c.in-Some.is in
    let m = c.make_gift-some.ensures in
    (l.invariant.0 ∙ step_on t ps c.args.count.0 l.k i p (not-false _ (sym m.value ∙ c.if-some.false)), known_next t ps l.k i p _ m.known_2)
