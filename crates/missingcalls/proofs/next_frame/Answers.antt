-- Those missing from `from` on are those from j on.
use Rattle.std.proofs.Common.{sym, refl, ◌∙◌, arith}
use Rattle.pageset.specs.Sets.{shown}
use Rattle.commit.specs.Says.{range_says}
use Rattle.layout.specs.Tables.{presence_in}
use Rattle.missingcalls.specs.Cursors.{frames_at}
use Rattle.missingcalls.proofs.FrameLaws.{row_few, frames_end, frame_asked, row_frame, frame_fit, frame_yes, frame_no, frame_none}
use Rattle.missingcalls.proofs.next_frame.Goals as goal

pub row-at-requires : goal.row-at-requires
row-at-requires c = (c.requires.0, c.requires.2.0)

pub overflow_add-at : goal.overflow_add-at
overflow_add-at c = omega (arith, c.row-at.ensures.1)

pub overflow_add-at-2 : goal.overflow_add-at-2
overflow_add-at-2 c = omega (arith, c.row-at.ensures.1)

pub frames_count-n-requires : goal.frames_count-n-requires
frames_count-n-requires c = omega (arith, c.row-at.ensures.1)

pub loop-j-init : goal.loop-j-init
loop-j-init c = refl

pub frame_in-range-requires : goal.frame_in-range-requires
frame_in-range-requires c =
    let l = c.loop-j in
    let n = c.frames_count-n in
    let w = c.row-at in
    frame_asked c.args.commits.now c.requires.0 c.args.i c.requires.2.0 c.requires.2.1 w.result w.ensures n.result n.ensures l.j (omega arith)

pub overflow_add-result : goal.overflow_add-result
overflow_add-result c =
    let l = c.loop-j in
    let n = c.frames_count-n in
    let w = c.row-at in
    omega (arith, row_few c.args.commits.now c.requires.0 c.args.i c.requires.2.0 c.requires.2.1 w.result w.ensures n.result n.ensures)

pub is_missing-requires : goal.is_missing-requires
is_missing-requires c =
    (c.requires.1, c.frame_in-range.ensures.normal, c.requires.3)

pub returns-then-is_missing : goal.returns-then-is_missing
returns-then-is_missing c =
    let l = c.loop-j in
    let n = c.frames_count-n in
    let w = c.row-at in
    let f = c.frame_in-range in
    let h = row_frame c.args.commits.now c.requires.0 c.args.i c.requires.2.0 c.requires.2.1 w.result w.ensures l.j f.result f.ensures in
    record {
      next =
          (l.invariant ∙ frame_yes (presence_in c.args.presence.now) (shown c.args.gift) (frames_at c.args.commits.now c.args.i) l.j (range_says f.result) h.says (sym c.is_missing.ensures ∙ c.if-is_missing.true), frame_fit (frames_at c.args.commits.now c.args.i) l.j f.result h);
    }

pub loop-j-preserved : goal.loop-j-preserved
loop-j-preserved c =
    let l = c.loop-j in
    let n = c.frames_count-n in
    let w = c.row-at in
    let f = c.frame_in-range in
    l.invariant ∙ frame_no (presence_in c.args.presence.now) (shown c.args.gift) (frames_at c.args.commits.now c.args.i) l.j (range_says f.result) (row_frame c.args.commits.now c.requires.0 c.args.i c.requires.2.0 c.requires.2.1 w.result w.ensures l.j f.result f.ensures).says (sym c.is_missing.ensures ∙ c.if-is_missing.false)

pub returns : goal.returns
returns c =
    let l = c.loop-j in
    let n = c.frames_count-n in
    let w = c.row-at in
    record { next = l.invariant ∙ frame_none (presence_in c.args.presence.now) (shown c.args.gift) (frames_at c.args.commits.now c.args.i) l.j (frames_end c.args.commits.now c.requires.0 c.args.i c.requires.2.0 c.requires.2.1 w.result w.ensures n.result n.ensures l.j (omega arith)) }
