-- 20 where the table is not formed, 1 for page 0; else the removal of that page.
use Rattle.std.proofs.Common.{sym, ◌∙◌}
use Rattle.layout.proofs.LentLaws.{lent_no, unchanged, changed}
use Rattle.layout.specs.Records.{present_bytes}
use Rattle.presencecalls.proofs.Ends.{remove_zero, remove_is}
use Rattle.presencecalls.proofs.page_remove.Goals as goal

pub returns-then-not-presence_formed : goal.returns-then-not-presence_formed
returns-then-not-presence_formed c = let whole = unchanged present_bytes c.args.presence.now _ 20 (lent_no _ _ (sym c.presence_formed.ensures ∙ c.if-not-presence_formed.true)) in
    record { value = whole.0; presence_after = whole.1 }

pub returns-then-page-eq0 : goal.returns-then-page-eq0
returns-then-page-eq0 c = let a = c.args in
    let t = a.presence.now in
    let whole = unchanged present_bytes t _ 1 (remove_zero t (sym c.presence_formed.ensures ∙ c.if-not-presence_formed.false) a.sid a.page.0 c.if-page-eq0.true) in
    record { value = whole.0; presence_after = whole.1 }

pub remove_pages-requires : goal.remove_pages-requires
remove_pages-requires c = (sym c.presence_formed.ensures ∙ c.if-not-presence_formed.false)

pub returns : goal.returns
returns c = let a = c.args in
    let t = a.presence.now in
    let whole = changed present_bytes t _ _ _ (remove_is t (sym c.presence_formed.ensures ∙ c.if-not-presence_formed.false) a.sid a.page.0 c.if-page-eq0.false) c.remove_pages.ensures in
    record { value = whole.0; presence_after = whole.1 }
