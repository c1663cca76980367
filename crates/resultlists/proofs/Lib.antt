-- The laws of result lists, for every byte form of an entry, and of the snapshot in bytes that many are asked of.
pub mod EntryLaws
pub mod AnswerLaws
pub mod RowLaws
pub mod SnapshotLaws
pub mod Putting
