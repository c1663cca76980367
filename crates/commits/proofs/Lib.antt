-- The laws that other crates cite. `RowLaws`: a row where it begins; `LookLaws`: what a search in the table finds, and what a place says to
-- a caller; `OnePlace`: a lookup has one answer.
pub mod RowLaws
pub mod LookLaws
pub mod OnePlace
