pub mod Output
pub mod Says
