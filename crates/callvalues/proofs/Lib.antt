pub mod Values
pub mod Fetched
pub mod Kept
