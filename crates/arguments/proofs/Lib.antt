pub mod ArgLaws
pub mod EarlyLaws
pub mod SetLaws
pub mod SnapshotLaws
