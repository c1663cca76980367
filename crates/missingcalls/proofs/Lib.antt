-- `FrameLaws`: the frames of a row, and which are missing; `CursorLaws`: the listing, step by step; `PutLaws`: frames as entries of a list; `Ends`: the call at each way out of the code.
pub mod FrameLaws
pub mod CursorLaws
pub mod PutLaws
pub mod Ends
