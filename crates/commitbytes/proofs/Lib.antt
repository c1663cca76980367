-- The laws that other crates cite. `LsnLaws`: of checkpoint LSNs in bytes; `PartLaws`: of the key, and of what may be missing; `TypeLaws`: how long the arrays are;
-- `CommitLaws`: of a commit in bytes, its fields and its form; `Trips`: of its round trips.
pub mod LsnLaws
pub mod PartLaws
pub mod TypeLaws
pub mod CommitLaws
pub mod Trips
