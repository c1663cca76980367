-- The laws of the calls that answer a list.
pub mod TableLaws
pub mod RangeLaws
pub mod PathLaws
