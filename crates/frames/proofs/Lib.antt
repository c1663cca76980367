pub mod FrameLaws
pub mod PlaceLaws
pub mod ListLaws
