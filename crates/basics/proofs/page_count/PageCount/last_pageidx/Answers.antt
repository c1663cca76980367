-- The rule read at no page and at some. Assumes nothing.
use Rattle.basics.proofs.NumberLaws.{end_none, end_some}
use Rattle.basics.proofs.page_count.PageCount.last_pageidx.Goals as goal

pub returns-then-n-eq0 : goal.returns-then-n-eq0
returns-then-n-eq0 c = end_none _ c.if-n-eq0.true

pub returns : goal.returns
returns c = end_some _ c.if-n-eq0.false
