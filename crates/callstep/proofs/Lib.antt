pub mod Named
pub mod Writes
pub mod Fetches
pub mod Found
pub mod Snaps
pub mod Saved
pub mod StepLaws
