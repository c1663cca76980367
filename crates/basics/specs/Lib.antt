pub mod Answers
pub mod Hashes
pub mod Numbers
pub mod Orders
pub mod Refusals
pub mod Says
