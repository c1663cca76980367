pub mod Codecs
pub mod Values
pub mod Records
pub mod Tables
pub mod Lent
