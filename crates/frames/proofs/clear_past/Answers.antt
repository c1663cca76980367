-- The frames passed were zero, so the test of what is left is the test of them all. Assumes nothing.
use Rattle.std.proofs.Common.{◌≡◌, length, sym, refl, ◌∙◌, arith}
use Rattle.commit.proofs.RecordLaws.{long_of}
use Rattle.frames.proofs.FrameLaws.{clear_size, clear_last, clear_step, clear_end}
use Rattle.frames.proofs.clear_past.Goals as goal

pub loop-i-init : goal.loop-i-init
loop-i-init c = refl

pub offset_bounds-fs-i : goal.offset_bounds-fs-i
offset_bounds-fs-i c = omega arith

pub bounds-fs-i : goal.bounds-fs-i
bounds-fs-i c = omega arith

pub returns-then-f-ne0 : goal.returns-then-f-ne0
returns-then-f-ne0 c =
    let long : length c.args.s.frames ≡ 16 = long_of c.args.s _ c.well_formed.0 in
    let d = c.loop-i in
    sym (clear_size c.args.s.frames (long) d.i (omega arith) c.if-f-ne0.true) ∙ d.invariant

pub returns-then-f-ne0-2 : goal.returns-then-f-ne0-2
returns-then-f-ne0-2 c =
    let long : length c.args.s.frames ≡ 16 = long_of c.args.s _ c.well_formed.0 in
    let d = c.loop-i in
    sym (clear_last c.args.s.frames (long) d.i (omega arith) c.if-f-ne0-2.true) ∙ d.invariant

pub loop-i-preserved : goal.loop-i-preserved
loop-i-preserved c =
    let long : length c.args.s.frames ≡ 16 = long_of c.args.s _ c.well_formed.0 in
    let d = c.loop-i in
    (sym (clear_step c.args.s.frames (long) d.i (omega arith) c.if-f-ne0.false c.if-f-ne0-2.false) ∙ d.invariant)

pub returns : goal.returns
returns c =
    let long : length c.args.s.frames ≡ 16 = long_of c.args.s _ c.well_formed.0 in
    let d = c.loop-i in
    sym (clear_end c.args.s.frames (long) d.i (omega arith)) ∙ d.invariant
