pub mod Ends
pub mod Bytes
