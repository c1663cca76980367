-- The laws that other crates cite. `OfCommits`: the rows are those of the rules. `EntryRows`, `EntryTurns`, `EntryMerges`: the bytes of index entries, the loop that counts
-- them and the loop that puts them in; `CheckpointRows`: the bytes of checkpoints.
pub mod EntryRows
pub mod EntryTurns
pub mod EntryMerges
pub mod CheckpointRows
pub mod OfCommits
