pub mod Args
pub mod Replies
pub mod Sets
pub mod Snapshots
