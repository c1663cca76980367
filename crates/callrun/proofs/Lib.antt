pub mod Newline
pub mod Short
