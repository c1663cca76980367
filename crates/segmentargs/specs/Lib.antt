pub mod Lists
pub mod Segments
