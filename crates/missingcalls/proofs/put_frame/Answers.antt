-- The frame is not missing, or there is no place for it, or it is put. Assumes nothing.
use Rattle.std.proofs.Common.{◌+◌, sym, ◌∙◌, arith}
use Rattle.pageset.specs.Sets.{shown}
use Rattle.rules.specs.Walk.{is_missing}
use Rattle.commit.specs.Says.{range_says}
use Rattle.layout.specs.Tables.{presence_in}
use Rattle.segmentbytes.proofs.Trips.{range_laid_lem}
use Rattle.resultlists.proofs.EntryLaws.{slots_room}
use Rattle.missingcalls.proofs.PutLaws.{entered_not, entered_past, entered_put}
use Rattle.missingcalls.proofs.put_frame.Goals as goal

pub returns-then-not-is_missing : goal.returns-then-not-is_missing
returns-then-not-is_missing c =
    entered_not (is_missing (presence_in c.args.presence.now) (shown c.args.gift) (range_says c.args.range)) c.args.to (range_says c.args.range) c.args.list.now (sym c.is_missing.ensures ∙ c.if-not-is_missing.true)

pub returns-then-list-to : goal.returns-then-list-to
returns-then-list-to c =
    entered_past (is_missing (presence_in c.args.presence.now) (shown c.args.gift) (range_says c.args.range)) c.args.to (range_says c.args.range) c.args.list.now (sym c.is_missing.ensures ∙ c.if-not-is_missing.false) (omega arith)

pub range_write-requires : goal.range_write-requires
range_write-requires c = record { at_in_bounds = omega (arith, slots_room 417 (c.args.to + 1) c.args.list.now (omega arith)); x_value = range_laid_lem c.args.range c.requires.1 }

pub returns : goal.returns
returns c =
    entered_put (is_missing (presence_in c.args.presence.now) (shown c.args.gift) (range_says c.args.range)) c.args.to (range_says c.args.range) c.args.list.now (sym c.is_missing.ensures ∙ c.if-not-is_missing.false) (omega arith) _ c.range_write.ensures
