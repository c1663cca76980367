pub mod Laid
pub mod Domain
