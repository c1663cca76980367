pub mod ListLaws
pub mod SegmentLaws
