-- 20 where the table is not formed, 1 where either end is page 0, 2 for a reversed range; else the removal of those pages.
use Rattle.std.proofs.Common.{sym, ◌∙◌}
use Rattle.layout.proofs.LentLaws.{lent_no, unchanged, changed}
use Rattle.layout.specs.Records.{present_bytes}
use Rattle.presencecalls.proofs.Ends.{range_first, range_last, range_turned, range_is}
use Rattle.presencecalls.proofs.pages_remove.Goals as goal

pub returns-then-not-presence_formed : goal.returns-then-not-presence_formed
returns-then-not-presence_formed c = let whole = unchanged present_bytes c.args.presence.now _ 20 (lent_no _ _ (sym c.presence_formed.ensures ∙ c.if-not-presence_formed.true)) in
    record { value = whole.0; presence_after = whole.1 }

pub returns-then-first-eq0 : goal.returns-then-first-eq0
returns-then-first-eq0 c = let a = c.args in
    let t = a.presence.now in
    let whole = unchanged present_bytes t _ 1 (range_first t (sym c.presence_formed.ensures ∙ c.if-not-presence_formed.false) a.sid a.first.0 a.last.0 c.if-first-eq0.true) in
    record { value = whole.0; presence_after = whole.1 }

pub returns-then-last-eq0 : goal.returns-then-last-eq0
returns-then-last-eq0 c = let a = c.args in
    let t = a.presence.now in
    let whole = unchanged present_bytes t _ 1 (range_last t (sym c.presence_formed.ensures ∙ c.if-not-presence_formed.false) a.sid a.first.0 a.last.0 c.if-first-eq0.false c.if-last-eq0.true) in
    record { value = whole.0; presence_after = whole.1 }

pub returns-then-last-first : goal.returns-then-last-first
returns-then-last-first c = let a = c.args in
    let t = a.presence.now in
    let whole = unchanged present_bytes t _ 2 (range_turned t (sym c.presence_formed.ensures ∙ c.if-not-presence_formed.false) a.sid a.first.0 a.last.0 c.if-first-eq0.false c.if-last-eq0.false c.if-last-first.true) in
    record { value = whole.0; presence_after = whole.1 }

pub remove_pages-requires : goal.remove_pages-requires
remove_pages-requires c = (sym c.presence_formed.ensures ∙ c.if-not-presence_formed.false)

pub returns : goal.returns
returns c = let a = c.args in
    let t = a.presence.now in
    let whole = changed present_bytes t _ _ _ (range_is t (sym c.presence_formed.ensures ∙ c.if-not-presence_formed.false) a.sid a.first.0 a.last.0 c.if-first-eq0.false c.if-last-eq0.false c.if-last-first.false) c.remove_pages.ensures in
    record { value = whole.0; presence_after = whole.1 }
