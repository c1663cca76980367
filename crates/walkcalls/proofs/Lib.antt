-- `ItemLaws`: an item's bytes, stored part by part; `Ends`: the call at each way out of the code.
pub mod ItemLaws
pub mod Ends
