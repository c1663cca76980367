pub mod Lists
pub mod Snapshots
