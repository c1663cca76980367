pub mod CopyRows
pub mod Copying
pub mod RoomLaws
pub mod Counting
