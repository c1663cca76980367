-- An unset slot, nothing found, or the commit that the bytes spell.
use Rattle.std.proofs.Common.{sym, ◌∙◌}
use Rattle.callstep.proofs.Found.{unset, no_commit, a_commit}
use Rattle.callstep.proofs.calls.find.Goals as goal

pub returns-then-not-is_set : goal.returns-then-not-is_set
returns-then-not-is_set c = let a = c.args in c.coded.ensures ∙ unset a.commits.now a.index.now a.slots.now a.slot a.page (sym c.is_set.ensures ∙ c.if-not-is_set.true)

pub returns-then-reply-eq0 : goal.returns-then-reply-eq0
returns-then-reply-eq0 c = let a = c.args in c.coded-then-reply-eq0.ensures ∙ no_commit a.commits.now a.index.now a.slots.now a.slot a.page (sym c.is_set.ensures ∙ c.if-not-is_set.false) c.held-snapshot.result c.held-snapshot.ensures c.search-reply.result _ c.search-reply.ensures c.if-reply-eq0.true

pub returns : goal.returns
returns c = let a = c.args in a_commit a.commits.now a.index.now a.slots.now a.slot a.page (sym c.is_set.ensures ∙ c.if-not-is_set.false) c.held-snapshot.result c.held-snapshot.ensures c.search-reply.result _ c.search-reply.ensures c.if-reply-eq0.false _ c.commit_head.ensures
