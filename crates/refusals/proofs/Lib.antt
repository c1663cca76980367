pub mod Laws
pub mod Recover
