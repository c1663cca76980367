-- The laws that other crates cite. `Puts`: of putAll and the new keys, the law of room among them; `Merges`: a merge from the back, for a caller that makes
-- its records one at a time. `Turns` and `Lifts`: the turns and steps of the loops here; `Lasts`: the last record of a rising batch;
-- `Removed`: a run of records gone.
pub mod Puts
pub mod Turns
pub mod Lifts
pub mod Lasts
pub mod Merges
pub mod Removed
