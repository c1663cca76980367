pub mod Slots
pub mod Values
