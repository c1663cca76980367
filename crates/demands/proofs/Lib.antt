pub mod Demand3
pub mod HouseRule
pub mod Seen
pub mod After
pub mod Saved
pub mod Frame
