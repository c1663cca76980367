-- The laws of the table of volumes: what its code makes, and that room freed by a removal is used again.
pub mod VolumeLaws
