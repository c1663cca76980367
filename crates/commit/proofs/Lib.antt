pub mod SetLaws
pub mod RecordLaws
