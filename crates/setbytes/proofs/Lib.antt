-- The laws that other crates cite. `ListLaws`: of a list at a place, and `TripLaws`: of the round trips, for every form; `WindowLaws`: of windows in bytes;
-- `LaidLaws`: of a set made of windows; `SetLaws`: of page sets in bytes, as the code meets them; `Trips`: of their round trips.
pub mod ListLaws
pub mod TripLaws
pub mod WindowLaws
pub mod LaidLaws
pub mod SetLaws
pub mod Trips
