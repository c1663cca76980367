pub mod Testers
pub mod Steps
pub mod Says
