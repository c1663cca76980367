-- The cut has no window, or the first page of the set decides.
use Rattle.std.proofs.Common.{ap}
use Rattle.basics.specs.Says.{maybe_page_says}
use Rattle.layout.specs.Tables.{presence_in}
use Rattle.missingcalls.proofs.FrameLaws.{not_met, by_first, no_first}
use Rattle.missingcalls.proofs.is_missing.Goals as goal

pub returns-then-common-eq0 : goal.returns-then-common-eq0
returns-then-common-eq0 c = not_met (presence_in c.args.presence.now) c.args.range c.args.gift c.cut-both.result.common c.requires.1 c.cut-both.ensures.1 c.if-common-eq0.true

pub returns-in-Some : goal.returns-in-Some
returns-in-Some c = by_first (presence_in c.args.presence.now) c.args.range c.args.gift c.cut-both.result.common c.requires.1 c.cut-both.ensures.1 c.if-common-eq0.false c.first-first.result c.first-first.ensures c.in-Some.page.0 c.is_present.result (ap maybe_page_says c.in-Some.is) c.is_present.ensures

pub returns-in-None : goal.returns-in-None
returns-in-None c = no_first (presence_in c.args.presence.now) c.args.range c.args.gift c.cut-both.result.common c.requires.1 c.cut-both.ensures.1 c.if-common-eq0.false c.first-first.result c.first-first.ensures (ap maybe_page_says c.in-None.is)
