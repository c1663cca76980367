pub mod Ends
pub mod FreedRoom
