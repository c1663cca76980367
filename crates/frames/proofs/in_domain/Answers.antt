-- The frames passed were in the domain, so what is left decides: the last pages rise from the page after the one before, and the sizes fit what
-- is left of 2^64-1. Assumes nothing.
use Rattle.std.proofs.Common.{◌≤◌, length, sym, refl, ◌∙◌, arith}
use Rattle.basics.specs.Numbers.{last_lsn}
use Rattle.commit.proofs.RecordLaws.{long_of}
use Rattle.frames.proofs.FrameLaws.{domain_low, domain_over, domain_step, domain_end, whole_domain}
use Rattle.frames.proofs.in_domain.Goals as goal

pub before_first-below-requires : goal.before_first-below-requires
before_first-below-requires c = c.requires.pages_value

pub loop-i-init : goal.loop-i-init
loop-i-init c = refl

pub offset_bounds-fs-i : goal.offset_bounds-fs-i
offset_bounds-fs-i c = omega arith

pub bounds-fs-i : goal.bounds-fs-i
bounds-fs-i c = omega arith

pub returns-then-f-below : goal.returns-then-f-below
unfolding last_lsn
returns-then-f-below c =
    let long : c.args.s.len ≤ length c.args.s.frames = omega (arith, long_of c.args.s _ c.well_formed.0, c.requires.len_bound) in
    let d = c.loop-i in
    sym (domain_low c.args.s (long) d.i d.below d.room (omega arith) c.if-f-below.true) ∙ d.invariant
    ∙ whole_domain c.args.s c.requires.len_bound _ c.before_first-below.ensures

pub returns-then-room-f : goal.returns-then-room-f
unfolding last_lsn
returns-then-room-f c =
    let long : c.args.s.len ≤ length c.args.s.frames = omega (arith, long_of c.args.s _ c.well_formed.0, c.requires.len_bound) in
    let d = c.loop-i in
    sym (domain_over c.args.s (long) d.i d.below d.room (omega arith) c.if-room-f.true) ∙ d.invariant
    ∙ whole_domain c.args.s c.requires.len_bound _ c.before_first-below.ensures

pub loop-i-preserved : goal.loop-i-preserved
loop-i-preserved c =
    let long : c.args.s.len ≤ length c.args.s.frames = omega (arith, long_of c.args.s _ c.well_formed.0, c.requires.len_bound) in
    let d = c.loop-i in
    (sym (domain_step c.args.s (long) d.i d.below d.room (omega arith) (omega arith) (omega arith) (omega arith)) ∙ d.invariant)

pub returns : goal.returns
unfolding last_lsn
returns c =
    let long : c.args.s.len ≤ length c.args.s.frames = omega (arith, long_of c.args.s _ c.well_formed.0, c.requires.len_bound) in
    let d = c.loop-i in
    sym (domain_end c.args.s (long) d.i d.below d.room (omega arith)) ∙ d.invariant
    ∙ whole_domain c.args.s c.requires.len_bound _ c.before_first-below.ensures
