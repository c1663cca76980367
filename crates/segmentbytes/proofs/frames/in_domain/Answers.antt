-- The frames passed were in the domain, so what is left decides: the last pages rise from the page after the one before, and the sizes fit what
-- is left of 2^64-1. Assumes nothing.
use Rattle.std.proofs.Common.{sym, ap, ◌∙◌, arith}
use Rattle.basics.specs.Numbers.{last_lsn}
use Rattle.commit.specs.Says.{frame_says}
use Rattle.segmentbytes.proofs.DomainLaws.{domain_low, domain_over, domain_step, domain_end}
use Rattle.segmentbytes.proofs.frames.in_domain.Goals as goal

pub returns-then-f-below : goal.returns-then-f-below
unfolding last_lsn
returns-then-f-below c =
    let a = c.args in
    let l = c.loop-i in
    sym (domain_low a.n a.at a.s.now l.i l.below l.room (omega arith) (frame_says c.frame_read-f.result) (ap frame_says c.frame_read-f.ensures) c.if-f-below.true) ∙ l.invariant

pub returns-then-room-f : goal.returns-then-room-f
unfolding last_lsn
returns-then-room-f c =
    let a = c.args in
    let l = c.loop-i in
    sym (domain_over a.n a.at a.s.now l.i l.below l.room (omega arith) (frame_says c.frame_read-f.result) (ap frame_says c.frame_read-f.ensures) c.if-room-f.true) ∙ l.invariant

pub loop-i-preserved : goal.loop-i-preserved
loop-i-preserved c =
    let a = c.args in
    let l = c.loop-i in
    sym (domain_step a.n a.at a.s.now l.i l.below l.room (omega arith) (frame_says c.frame_read-f.result) (ap frame_says c.frame_read-f.ensures) (omega arith) (omega arith) (omega arith)) ∙ l.invariant

pub returns : goal.returns
unfolding last_lsn
returns c =
    let a = c.args in
    let l = c.loop-i in
    sym (domain_end a.n a.at a.s.now l.i l.below l.room (omega arith)) ∙ l.invariant
