-- The laws that other crates cite. `TypeLaws`: how long the arrays are; `FrameLaws`: of a frame and of an array of frames in bytes; `DomainLaws`: of frames in form;
-- `SegmentLaws`: of segments and ranges in bytes; `Trips`: of their round trips.
pub mod TypeLaws
pub mod FrameLaws
pub mod DomainLaws
pub mod SegmentLaws
pub mod Trips
