-- Its fields are stored one after another; a segment that is laid out has a set and frames that are. Assumes nothing.
use Rattle.std.proofs.Common.{◌≤◌, length, ap, arith, length-take, rules}
use Rattle.pageset.specs.Sets.{shown}
use Rattle.commit.specs.declared.SegmentIdx.{SegmentIdx}
use Rattle.commit.specs.Says.{segment_says}
use Rattle.commit.proofs.RecordLaws.{long_of}
use Rattle.setbytes.proofs.WindowLaws.{set_long}
use Rattle.segmentbytes.proofs.TypeLaws.{sid_16, windows_32}
use Rattle.segmentbytes.proofs.FrameLaws.{frames_long}
use Rattle.segmentbytes.proofs.SegmentLaws.{segment_stored}
use Rattle.segmentbytes.proofs.segment_write.Goals as goal

pub set_write-requires : goal.set_write-requires
set_write-requires c = record { at_in_bounds = search rules; x_value = ap (λ (x : SegmentIdx). x.pages) c.requires.x_value }

pub frames_write-requires : goal.frames_write-requires
frames_write-requires c = let e = c.requires.x_value in record { at_in_bounds = search rules; laid = record { count = ap (λ (x : SegmentIdx). x.len) e; array = ap (λ (x : SegmentIdx). x.frames) e } }

pub returns : goal.returns
returns c =
    let x = c.args.x in
    let g = c.well_formed.1.1.0 in
    let few : length (shown x.pages) ≤ 32 = omega (arith, length-take x.pages.len x.pages.windows, windows_32 x _ g) in
    segment_stored c.args.at (segment_says x) c.args.s.now _ _ _ (sid_16 x _ g) (set_long (shown x.pages) few) (frames_long x.len x.frames (long_of x _ g)) (omega arith)
    c.store_id.ensures c.set_write.ensures c.frames_write.ensures
