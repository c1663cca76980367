-- The entries put are those of the frames before j, as far as there are places, and all of them are counted (`Filling`).
use Rattle.std.proofs.Common.{arith}
use Rattle.pageset.specs.Sets.{shown}
use Rattle.rules.specs.Walk.{is_missing}
use Rattle.commit.specs.Says.{range_says}
use Rattle.layout.specs.Tables.{presence_in}
use Rattle.segmentargs.proofs.SegmentLaws.{range_long}
use Rattle.missingcalls.specs.Cursors.{frames_at, frames_left}
use Rattle.missingcalls.proofs.FrameLaws.{row_few, frames_end, frame_asked, row_frame, frame_none}
use Rattle.missingcalls.proofs.PutLaws.{fill_start, fill_frame, entered_next, fill_number, fill_end}
use Rattle.missingcalls.proofs.put_frames.Goals as goal

pub row-at-requires : goal.row-at-requires
row-at-requires c = (c.requires.commits_value.0, c.requires.commits_value.2.0)

pub overflow_add-at : goal.overflow_add-at
overflow_add-at c = omega (arith, c.row-at.ensures.1)

pub overflow_add-at-2 : goal.overflow_add-at-2
overflow_add-at-2 c = omega (arith, c.row-at.ensures.1)

pub frames_count-n-requires : goal.frames_count-n-requires
frames_count-n-requires c = omega (arith, c.row-at.ensures.1)

pub loop-j-init : goal.loop-j-init
loop-j-init c =
    (omega arith, fill_start c.args.list.now c.args.from (frames_left (presence_in c.args.presence.now) (shown c.args.gift) (frames_at c.args.commits.now c.args.i) 0))

pub frame_in-requires : goal.frame_in-requires
frame_in-requires c =
    let l = c.loop-j in
    let n = c.frames_count-n in
    let w = c.row-at in
    frame_asked c.args.commits.now c.requires.commits_value.0 c.args.i c.requires.commits_value.2.0 c.requires.commits_value.2.1 w.result w.ensures n.result n.ensures l.j (omega arith)

pub put_frame-to-requires : goal.put_frame-to-requires
put_frame-to-requires c =
    let l = c.loop-j in
    let n = c.frames_count-n in
    let w = c.row-at in
    (c.requires.commits_value.1, c.frame_in.ensures.normal, c.requires.commits_value.3, omega (arith, l.invariant.0, c.requires.from_bound, row_few c.args.commits.now c.requires.commits_value.0 c.args.i c.requires.commits_value.2.0 c.requires.commits_value.2.1 w.result w.ensures n.result n.ensures))

pub loop-j-preserved : goal.loop-j-preserved
loop-j-preserved c =
    let l = c.loop-j in
    let n = c.frames_count-n in
    let w = c.row-at in
    let f = c.frame_in in
    let h = row_frame c.args.commits.now c.requires.commits_value.0 c.args.i c.requires.commits_value.2.0 c.requires.commits_value.2.1 w.result w.ensures l.j f.result f.ensures in
    let q = c.put_frame-to in
    let x = range_says f.result in (
      omega (arith, l.invariant.0, entered_next (is_missing (presence_in c.args.presence.now) (shown c.args.gift) x) l.to x l.list q.result _ q.ensures),
      fill_frame (presence_in c.args.presence.now) (shown c.args.gift) (frames_at c.args.commits.now c.args.i) c.args.list.now c.args.from l.j l.to l.list x h.says (range_long f.result h.sid h.normal) l.invariant.1 q.result _ q.ensures,
    )

pub returns : goal.returns
returns c = let l = c.loop-j in
    let n = c.frames_count-n in
    let w = c.row-at in
    let e = frame_none (presence_in c.args.presence.now) (shown c.args.gift) (frames_at c.args.commits.now c.args.i) l.j (frames_end c.args.commits.now c.requires.commits_value.0 c.args.i c.requires.commits_value.2.0 c.requires.commits_value.2.1 w.result w.ensures n.result n.ensures l.j (omega arith)) in
    let r = frames_left (presence_in c.args.presence.now) (shown c.args.gift) (frames_at c.args.commits.now c.args.i) l.j in record { value = fill_number c.args.list.now c.args.from (frames_left (presence_in c.args.presence.now) (shown c.args.gift) (frames_at c.args.commits.now c.args.i) 0) l.to l.list r l.invariant.1 e; entries = fill_end c.args.list.now c.args.from (frames_left (presence_in c.args.presence.now) (shown c.args.gift) (frames_at c.args.commits.now c.args.i) 0) l.to l.list r l.invariant.1 e }
