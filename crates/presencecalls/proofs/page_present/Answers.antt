-- 20 where the table is not formed, 1 for page 0; else whether the lookup finds the page.
use Rattle.std.proofs.Common.{Bool, sym, ap, ◌∙◌}
use Rattle.basics.specs.Answers.{done}
use Rattle.layout.proofs.LentLaws.{lent_no}
use Rattle.presencecalls.proofs.Ends.{present_zero, present_is}
use Rattle.presencecalls.proofs.page_present.Goals as goal

pub returns-then-not-presence_formed : goal.returns-then-not-presence_formed
returns-then-not-presence_formed c = sym (lent_no _ _ (sym c.presence_formed.ensures ∙ c.if-not-presence_formed.true))

pub returns-then-page-eq0 : goal.returns-then-page-eq0
returns-then-page-eq0 c =
    let a = c.args in
    let t = a.presence.now in
    sym (present_zero t (sym c.presence_formed.ensures ∙ c.if-not-presence_formed.false) a.sid a.page.0 c.if-page-eq0.true)

pub is_present-requires : goal.is_present-requires
is_present-requires c = (sym c.presence_formed.ensures ∙ c.if-not-presence_formed.false)

pub returns-then-is_present : goal.returns-then-is_present
returns-then-is_present c =
    let a = c.args in
    let t = a.presence.now in
    ap (λ (b : Bool). done b) (sym c.if-is_present.true ∙ c.is_present.ensures) ∙ sym (present_is t (sym c.presence_formed.ensures ∙ c.if-not-presence_formed.false) a.sid a.page.0 c.if-page-eq0.false)

pub returns : goal.returns
returns c =
    let a = c.args in
    let t = a.presence.now in
    ap (λ (b : Bool). done b) (sym c.if-is_present.false ∙ c.is_present.ensures) ∙ sym (present_is t (sym c.presence_formed.ensures ∙ c.if-not-presence_formed.false) a.sid a.page.0 c.if-page-eq0.false)
