-- The step, and where it finds a commit its gift as a set.
use mathlib.Core.Path.{ap, ◌∙◌}
use Rattle.pageset.specs.Sets.{normal_form}
use Rattle.gifts.specs.Paths.{places_in}
use Rattle.gifts.proofs.WalkLaws.{step_found, found_missing, found_is}
use Rattle.gifts.proofs.next_set.Goals as goal

pub returns-in_default : goal.returns-in_default
returns-in_default c = let t = c.args.commits.now in
    let ps = places_in c.args.path.runs in
    let g = c.next_gift-step in record { value = found_missing t ps c.requires.commits_value.0 c.requires.commits_value.1 c.args.count.0 c.args.from g.result g.ensures.value c.empty-gift.result c.empty-gift.ensures c.in_default.is; known_2 = g.ensures.known_2 }

pub gift_set-gift-requires : goal.gift_set-gift-requires
gift_set-gift-requires c = let t = c.args.commits.now in
    let ps = places_in c.args.path.runs in
    let g = c.next_gift-step in
    let i = c.in-Some.i in
    let e = c.in-Some.is in
    let s = step_found t ps c.requires.commits_value.0 c.requires.commits_value.1 c.args.count.0 c.args.from g.result g.ensures.value i e in record { commits_value = (c.requires.commits_value.0, s.below, s.has); left_value = ap normal_form (g.ensures.gift_in i e) ∙ s.normal }

pub returns : goal.returns
returns c = let t = c.args.commits.now in
    let ps = places_in c.args.path.runs in
    let g = c.next_gift-step in
    let i = c.in-Some.i in
    let e = c.in-Some.is in record { value = found_is t ps c.requires.commits_value.0 c.requires.commits_value.1 c.args.count.0 c.args.from g.result g.ensures.value i c.gift_set-gift.result _ e c.gift_set-gift.ensures (g.ensures.gift_in i e); known_2 = g.ensures.known_2 }
