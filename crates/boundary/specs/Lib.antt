pub mod Flags
pub mod Formats
pub mod Tables
pub mod Parts
