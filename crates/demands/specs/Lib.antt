pub mod Demand3
pub mod HouseRule
pub mod Saved
pub mod Frame
