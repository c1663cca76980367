-- 20 where the table is not formed, 1 for page 0, 19 where the page does not fit; else it is stored.
use Rattle.std.proofs.Common.{sym, ◌∙◌, arith}
use Rattle.layout.proofs.LentLaws.{lent_no, unchanged, changed}
use Rattle.layout.specs.Records.{present_bytes}
use Rattle.presencecalls.proofs.Ends.{mark_zero, mark_full, mark_is}
use Rattle.presencecalls.proofs.page_mark.Goals as goal

pub returns-then-not-presence_formed : goal.returns-then-not-presence_formed
returns-then-not-presence_formed c = let whole = unchanged present_bytes c.args.presence.now _ 20 (lent_no _ _ (sym c.presence_formed.ensures ∙ c.if-not-presence_formed.true)) in
    record { value = whole.0; presence_after = whole.1 }

pub returns-then-page-eq0 : goal.returns-then-page-eq0
returns-then-page-eq0 c = let a = c.args in
    let t = a.presence.now in
    let whole = unchanged present_bytes t _ 1 (mark_zero t (sym c.presence_formed.ensures ∙ c.if-not-presence_formed.false) a.sid a.page.0 c.if-page-eq0.true) in
    record { value = whole.0; presence_after = whole.1 }

pub room_for_page-requires : goal.room_for_page-requires
room_for_page-requires c = ((sym c.presence_formed.ensures ∙ c.if-not-presence_formed.false), omega (arith, c.if-page-eq0.false))

pub returns-then-not-room_for_page : goal.returns-then-not-room_for_page
returns-then-not-room_for_page c = let a = c.args in
    let t = a.presence.now in
    let whole = unchanged present_bytes t _ 19 (mark_full t (sym c.presence_formed.ensures ∙ c.if-not-presence_formed.false) a.sid a.page.0 c.if-page-eq0.false (sym c.room_for_page.ensures ∙ c.if-not-room_for_page.true)) in
    record { value = whole.0; presence_after = whole.1 }

pub put_page-requires : goal.put_page-requires
put_page-requires c = record { t_value = ((sym c.presence_formed.ensures ∙ c.if-not-presence_formed.false), omega (arith, c.if-page-eq0.false)); t_value_2 = sym c.room_for_page.ensures ∙ c.if-not-room_for_page.false }

pub returns : goal.returns
returns c = let a = c.args in
    let t = a.presence.now in
    let whole = changed present_bytes t _ _ _ (mark_is t (sym c.presence_formed.ensures ∙ c.if-not-presence_formed.false) a.sid a.page.0 c.if-page-eq0.false (sym c.room_for_page.ensures ∙ c.if-not-room_for_page.false)) c.put_page.ensures in
    record { value = whole.0; presence_after = whole.1 }
