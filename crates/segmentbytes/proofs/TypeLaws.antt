-- What the types of segments and ranges tell: how long their arrays are.
use Rattle.std.proofs.Common.{◌≡◌, List, length, sym, ◌∙◌}
use mir.Val.{Val}
use denote.Laws.{Is}
use denote.Struct.Declared.{row}
use lib.ListN.{length-map}
use Rattle.pageset.proofs.WalkLaws.{long_of}
use Rattle.commit.specs.declared.SegmentIdx.{SegmentIdx}
use Rattle.commit.specs.declared.SegmentRange.{SegmentRange}
use Rattle.commit.specs.contracts.SegmentIdx as S
use Rattle.commit.specs.contracts.SegmentRange as R

module _ (x : SegmentIdx) (vs : List Val) (g : Is (row S.the_type) x vs) where
  pub sid_16 : length x.sid ≡ 16
  sid_16 = g.1.1.0.1.0.1

  pub windows_32 : length x.pages.windows ≡ 32
  windows_32 = long_of x.pages _ g.1.1.1.0

module _ (x : SegmentRange) (vs : List Val) (g : Is (row R.the_type) x vs) where
  pub range_sid_16 : length x.sid ≡ 16
  range_sid_16 = g.1.1.0.1.0.1

  pub range_windows_32 : length x.pages.windows ≡ 32
  range_windows_32 = long_of x.pages _ g.1.1.1.1.1.0
