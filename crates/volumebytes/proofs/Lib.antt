-- The laws of a volume in bytes: `FormLaws`, what its form asks; `ReadLaws`, what its bytes are read as; `WriteLaws`, what stores write; `RoundLaws`, both round trips.
pub mod FormLaws
pub mod ReadLaws
pub mod WriteLaws
pub mod RoundLaws
