pub mod PathLaws
pub mod LeftLaws
pub mod OneMet
