-- 22, or the write of the bytes of the commit.
use Rattle.std.proofs.Common.{◌∙◌, w8, w32, w64, Fits, rules}
use Rattle.callstep.proofs.Named.{named}
use Rattle.callstep.proofs.Fetches.{over, fetches}
use Rattle.callstep.proofs.calls.fetch.Goals as goal

pub returns-then-number-ne0 : goal.returns-then-number-ne0
returns-then-number-ne0 c = let a = c.args in let n = named a.text.now c.page_set-pages.result c.requires c.page_set-pages.ensures in over a.commits.now a.checkpoints.now a.index.now a.log a.lsn a.count a.sid a.text.now c.page_set-pages.result n c.if-number-ne0.true

pub fetched_bytes-c-requires : goal.fetched_bytes-c-requires
fetched_bytes-c-requires c = let a = c.args in (named a.text.now c.page_set-pages.result c.requires c.page_set-pages.ensures).form c.if-number-ne0.false

pub returns : goal.returns
returns c = let a = c.args in let n = named a.text.now c.page_set-pages.result c.requires c.page_set-pages.ensures in let f1 : Fits w8 a.log = search rules in let f2 : Fits w64 a.lsn = search rules in let f3 : Fits w32 a.count = search rules in let f4 : Fits w8 a.sid = search rules in fetches a.commits.now a.checkpoints.now a.index.now a.log a.lsn a.count a.sid a.text.now c.page_set-pages.result n c.if-number-ne0.false f1.fits f2.fits f3.fits f4.fits c.id_of.result c.id_of-2.result c.fetched_bytes-c.result c.id_of.ensures c.id_of-2.ensures c.fetched_bytes-c.ensures _ _ _ _ (c.number_or_zero.ensures ∙ c.write_commit.ensures.value) c.write_commit.ensures.commits_after c.write_commit.ensures.checkpoints_after c.write_commit.ensures.index_after
