pub mod Snapshots
pub mod Volumes
