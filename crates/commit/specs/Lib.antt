pub mod Builders
pub mod Says
