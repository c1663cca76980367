pub mod Bytes
pub mod Order
pub mod Guards
pub mod Tab
pub mod Flat
