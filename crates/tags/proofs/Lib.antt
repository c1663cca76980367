-- The laws of tags in bytes: `FormLaws`, what a tag's form asks; `RowLaws`, what the code makes of a name and a volume; `TagLaws`, that room freed is used again.
pub mod FormLaws
pub mod RowLaws
pub mod TagLaws
