-- A frame of the record that is listed, or the first of the items that follow.
use Rattle.pageset.specs.Sets.{shown}
use Rattle.layout.specs.Tables.{presence_in}
use Rattle.gifts.specs.Paths.{places_in}
use Rattle.missingcalls.specs.Cursors.{frames_at}
use Rattle.missingcalls.proofs.CursorLaws.{frame_lacks, same_left, left_none, left_past, left_here, sound_at}
use borrow.Author.Tests.{not-true, not-false}
use Rattle.missingcalls.proofs.next_missing.Goals as goal

pub returns-in_default : goal.returns-in_default
returns-in_default c = same_left c.args.commits.now (presence_in c.args.presence.now) c.args.count.0 (places_in c.args.path.runs) _ _ c.next_item.result (left_none c.args.commits.now (presence_in c.args.presence.now) c.args.count.0 (places_in c.args.path.runs) c.args.c c.in_default.is) c.next_item.ensures

pub next_frame-f-requires : goal.next_frame-f-requires
next_frame-f-requires c = (c.requires.0, c.requires.1, sound_at c.args.commits.now (presence_in c.args.presence.now) c.args.count.0 (places_in c.args.path.runs) c.args.c c.in-Some.i c.requires.3 c.in-Some.is, c.requires.3.gift)

pub returns-then-not-f : goal.returns-then-not-f
returns-then-not-f c = same_left c.args.commits.now (presence_in c.args.presence.now) c.args.count.0 (places_in c.args.path.runs) _ _ c.next_item-then-not-f.result (left_past c.args.commits.now (presence_in c.args.presence.now) c.args.count.0 (places_in c.args.path.runs) c.args.c c.in-Some.i c.in-Some.is (frame_lacks (presence_in c.args.presence.now) (shown c.args.c.gift) (frames_at c.args.commits.now c.in-Some.i) c.args.c.frame c.next_frame-f.result c.next_frame-f.ensures (not-true _ c.if-not-f.true))) c.next_item-then-not-f.ensures

pub returns : goal.returns
returns c = left_here c.args.commits.now (presence_in c.args.presence.now) c.args.count.0 (places_in c.args.path.runs) c.in-Some.i c.args.c (sound_at c.args.commits.now (presence_in c.args.presence.now) c.args.count.0 (places_in c.args.path.runs) c.args.c c.in-Some.i c.requires.3 c.in-Some.is) c.requires.3.gift c.next_frame-f.result c.next_frame-f.ensures (not-false _ c.if-not-f.false) c.in-Some.is
