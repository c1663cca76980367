pub mod Cursors
pub mod Entries
