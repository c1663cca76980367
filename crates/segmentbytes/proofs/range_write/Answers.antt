-- Its fields are stored one after another; a range that is laid out has a set that is. Assumes nothing.
use Rattle.std.proofs.Common.{◌≤◌, length, ap, arith, length-take, rules}
use Rattle.pageset.specs.Sets.{shown}
use Rattle.commit.specs.declared.SegmentRange.{SegmentRange}
use Rattle.commit.specs.Says.{range_says}
use Rattle.setbytes.proofs.WindowLaws.{set_long}
use Rattle.segmentbytes.proofs.TypeLaws.{range_sid_16, range_windows_32}
use Rattle.segmentbytes.proofs.SegmentLaws.{range_stored}
use Rattle.segmentbytes.proofs.range_write.Goals as goal

pub set_write-requires : goal.set_write-requires
set_write-requires c = record { at_in_bounds = search rules; x_value = ap (λ (x : SegmentRange). x.pages) c.requires.x_value }

pub returns : goal.returns
returns c =
    let x = c.args.x in
    let g = c.well_formed.1.1.0 in
    let few : length (shown x.pages) ≤ 32 = omega (arith, length-take x.pages.len x.pages.windows, range_windows_32 x _ g) in
    range_stored c.args.at (range_says x) c.args.s.now _ _ _ _ (range_sid_16 x _ g) (set_long (shown x.pages) few) (omega arith)
    c.store_id.ensures c.store64.ensures c.store64-2.ensures c.set_write.ensures
