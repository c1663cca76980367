-- The laws that other crates cite. `Keys`: of cmp and rises; `Rows`: of runs, recs, laid and the capacity; `Spots`: of spot, put, removed and look;
-- `Checks`: of well_ordered; `Ends`: of a table that was laid, and of one after a removal; `Runs`: of the run between two keys. `Stores`: what the stores leave.
pub mod Keys
pub mod Rows
pub mod Stores
pub mod Spots
pub mod Checks
pub mod Ends
pub mod Runs
pub mod Examples
