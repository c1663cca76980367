pub mod ChangeLaws
pub mod PathLaws
pub mod SnapshotLaws
