-- `GivenLaws`: the masks one by one, and the set that windows with masks of their own are; `MaskLaws`: the turns of the loops over masks; `PutLaws`: the set
-- that they give, written.
pub mod GivenLaws
pub mod MaskLaws
pub mod PutLaws
