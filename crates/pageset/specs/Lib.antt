pub mod Sets
pub mod Windows
pub mod Counts
pub mod Rules
pub mod Says
