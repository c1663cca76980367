-- `page_set` meets its contract. The invariant: the set has the pages of the ranges before a place of the text, all up to the last of them, and the ranges that are left, from that place on, rise above it. The measure: what is left of the text. Assumes nothing.
use Rattle.std.proofs.Common.{◌≡◌, ◌-◌, ◌||◌, List, ◌∷◌, sym, ap, ◌∙◌, subst, arith, rules}
use Rattle.pageset.specs.Sets.{member}
use Rattle.pageset.specs.Rules.{within}
use Rattle.callline.specs.Texts.{Text, pieces_after, between}
use Rattle.callline.specs.Says.{range_says}
use Rattle.callline.proofs.TextLaws.{pieces, after_last, after_more}
use Rattle.callpages.proofs.PartLaws.{Part, stray, dash_end, part_start, no_stray, from_one, rises, part_rule, part_more, part_end, up_to}
use Rattle.callpages.proofs.SubsetLaws.{still_22, its_set}
use Rattle.basics.specs.Answers.{done}
use Rattle.callline.specs.Values.{range_of}
use Rattle.callpages.specs.Pages.{in_ranges}
use Rattle.callline.specs.Texts.{Text}
use Rattle.callpages.proofs.page_set.Goals as goal

pub returns-then-not-is_pages : goal.returns-then-not-is_pages
returns-then-not-is_pages c = stray c.args.text.now (sym c.is_pages.ensures ∙ c.if-not-is_pages.true) c.refusal.result c.refusal.ensures

pub returns-then-is_text : goal.returns-then-is_text
returns-then-is_text c = let t = c.args.text.now in rw c.empty-set.ensures (dash_end t (sym c.is_text.ensures ∙ c.if-is_text.true))

pub loop-first-init : goal.loop-first-init
loop-first-init c = let t = c.args.text.now in (search rules, rw c.empty-set.ensures (part_start t (sym c.is_pages.ensures ∙ c.if-not-is_pages.false) (sym c.is_text.ensures ∙ c.if-is_text.false)))

pub returns-in_default : goal.returns-in_default
returns-in_default c = let t = c.args.text.now in let k = c.loop-first in let e = c.piece_end-end.result in let p = between k.at e t in let ps = pieces_after 44 t e in let c₁ : Part t (between k.at e t ∷ pieces_after 44 t e) k.set = subst (λ (l : List Text). Part t l k.set) (pieces 44 t k.at e k.invariant.0 c.piece_end-end.ensures.0) k.invariant.1 in absurd (no_stray c₁.low p ps c₁.rest c₁.left (sym c.range.ensures ∙ ap range_says c.in_default.is))

pub with_range-sum-requires : goal.with_range-sum-requires
with_range-sum-requires c = let t = c.args.text.now in let k = c.loop-first in let e = c.piece_end-end.result in let p = between k.at e t in let ps = pieces_after 44 t e in let c₁ : Part t (between k.at e t ∷ pieces_after 44 t e) k.set = subst (λ (l : List Text). Part t l k.set) (pieces 44 t k.at e k.invariant.0 c.piece_end-end.ensures.0) k.invariant.1 in let f = c.in-From.first in let l = c.in-From.last in let r : range_of (between k.at e t) ≡ done (record { first = f; last = l }) = sym c.range.ensures ∙ ap range_says c.in-From.is in (c₁.formed, from_one t p ps k.set c₁ f l r, rises t p ps k.set c₁ f l r)

pub returns-then-sum-ne0 : goal.returns-then-sum-ne0
returns-then-sum-ne0 c = let t = c.args.text.now in let k = c.loop-first in let e = c.piece_end-end.result in let p = between k.at e t in let ps = pieces_after 44 t e in let c₁ : Part t (between k.at e t ∷ pieces_after 44 t e) k.set = subst (λ (l : List Text). Part t l k.set) (pieces 44 t k.at e k.invariant.0 c.piece_end-end.ensures.0) k.invariant.1 in let f = c.in-From.first in let l = c.in-From.last in let r : range_of (between k.at e t) ≡ done (record { first = f; last = l }) = sym c.range.ensures ∙ ap range_says c.in-From.is in rw (part_rule t _ k.set c₁) (still_22 (λ q. member k.set q || within f l q) c.with_range-sum.result c.with_range-sum.ensures c.if-sum-ne0.true (in_ranges c₁.ranges) 1 l (omega arith) (up_to t p ps k.set c₁ f l r))

pub returns-then-end-text : goal.returns-then-end-text
returns-then-end-text c = let t = c.args.text.now in let k = c.loop-first in let e = c.piece_end-end.result in let p = between k.at e t in let ps = pieces_after 44 t e in let c₁ : Part t (between k.at e t ∷ pieces_after 44 t e) k.set = subst (λ (l : List Text). Part t l k.set) (pieces 44 t k.at e k.invariant.0 c.piece_end-end.ensures.0) k.invariant.1 in let f = c.in-From.first in let l = c.in-From.last in let r : range_of (between k.at e t) ≡ done (record { first = f; last = l }) = sym c.range.ensures ∙ ap range_says c.in-From.is in let u = c.with_range-sum.result in let more = part_more t p ps k.set c₁ f l r u.set (its_set (λ q. member k.set q || within f l q) u c.with_range-sum.ensures c.if-sum-ne0.false) in part_end t u.set (subst (λ (l : List Text). Part t l c.with_range-sum.result.set) (after_last 44 t e (omega arith)) more)

pub loop-first-preserved : goal.loop-first-preserved
loop-first-preserved c = let t = c.args.text.now in let k = c.loop-first in let e = c.piece_end-end.result in let p = between k.at e t in let ps = pieces_after 44 t e in let c₁ : Part t (between k.at e t ∷ pieces_after 44 t e) k.set = subst (λ (l : List Text). Part t l k.set) (pieces 44 t k.at e k.invariant.0 c.piece_end-end.ensures.0) k.invariant.1 in let f = c.in-From.first in let l = c.in-From.last in let r : range_of (between k.at e t) ≡ done (record { first = f; last = l }) = sym c.range.ensures ∙ ap range_says c.in-From.is in let u = c.with_range-sum.result in let more = part_more t p ps k.set c₁ f l r u.set (its_set (λ q. member k.set q || within f l q) u c.with_range-sum.ensures c.if-sum-ne0.false) in (omega arith, subst (λ (l : List Text). Part t l c.with_range-sum.result.set) (after_more 44 t e (omega arith)) more)
