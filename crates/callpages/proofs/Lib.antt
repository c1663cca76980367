-- `SubsetLaws`: what needs over 32 windows still does with more pages; `PartLaws`: a set built of the ranges up to a place of the text.
pub mod SubsetLaws
pub mod PartLaws
