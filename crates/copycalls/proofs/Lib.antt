pub mod Asks
pub mod Ends
