-- The ones of the masks passed, and those of the masks left, are the ones of them all, which count the pages. Each mask has at most 64, so
-- the sum fits. Assumes nothing.
use Rattle.std.proofs.Common.{get_or, ◌∙◌, arith}
use lib.Count.{ones-le}
use Rattle.pageset.specs.Sets.{shown, zero_window}
use Rattle.pageset.proofs.FormLaws.{Normal, normal_fact, shown_length}
use Rattle.pageset.proofs.EdgeLaws.{nth}
use Rattle.pageset.proofs.CountLaws.{tally_step, tally_end, members_counted}
use Rattle.pageset.proofs.sets.cardinality.Goals as goal

pub shared_ref_as_front-w-items : goal.shared_ref_as_front-w-items
shared_ref_as_front-w-items c = let t = (normal_fact c.args.s c.requires).tidy in omega (arith, t.short, t.whole)

pub overflow_add-total : goal.overflow_add-total
overflow_add-total c =
    let its : Normal c.args.s = normal_fact c.args.s c.requires in
    let i = c.loop-w.w-index in
    let n = nth 0 (shown c.args.s) i its.rising (omega arith) in
    omega (arith, ones-le 64 (get_or (shown c.args.s) i zero_window).mask n.fits, shown_length c.args.s its.tidy, its.tidy.short)

pub loop-w-preserved : goal.loop-w-preserved
loop-w-preserved c =
    let its : Normal c.args.s = normal_fact c.args.s c.requires in
    let i = c.loop-w.w-index in
    let n = nth 0 (shown c.args.s) i its.rising (omega arith) in
    record {
      fits = omega (arith, ones-le 64 (get_or (shown c.args.s) i zero_window).mask n.fits);
      ones = tally_step (shown c.args.s) i c.loop-w.total c.loop-w.invariant.ones (omega arith);
    }

pub returns : goal.returns
returns c =
    let s = c.args.s in
    tally_end (shown s) c.loop-w.w-index c.loop-w.total c.loop-w.invariant.ones (omega arith) ∙ members_counted s (normal_fact s c.requires)
