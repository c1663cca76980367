pub mod Frame
pub mod Holding
pub mod Stays
