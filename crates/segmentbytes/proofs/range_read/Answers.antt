-- Each field is read at its place. Assumes nothing.
use Rattle.std.proofs.Common.{sym, ap, ◌∙◌}
use Rattle.commit.specs.declared.SegmentRange.{SegmentRange}
use Rattle.segmentbytes.specs.Laid.{range_laid}
use Rattle.segmentbytes.proofs.SegmentLaws.{range_at_lem}
use Rattle.segmentbytes.proofs.range_read.Goals as goal

pub returns : goal.returns
returns c =
    let a = c.args in
    let i = c.load_id-sid.ensures in
    let b = c.load64-start.ensures in
    let e = c.load64-end.ensures in
    let p = c.set_read-pages.ensures in
    ◌∙◌ {A = SegmentRange} (λ j. record { sid = i j; start = b j; end = e j; pages = p j }) (ap range_laid (sym (range_at_lem a.s.now a.at)))
