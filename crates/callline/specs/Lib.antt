pub mod Texts
pub mod Values
pub mod Lines
pub mod Says
