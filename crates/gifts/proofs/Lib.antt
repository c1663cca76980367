-- `PathLaws`: the places of a path, run by run; `SetLaws`: the pages of a commit where they stand; `ApartLaws`: pages that have no window in a span; `StepLaws`: a turn of the walk;
-- `HeldLaws`: the pages that earlier commits hold; `SortLaws`: windows sorted by the notes; `GiftLaws`: the masks of a gift; `WalkLaws`: the walk goes by steps.
pub mod ApartLaws
pub mod GiftLaws
pub mod HeldLaws
pub mod PathLaws
pub mod SetLaws
pub mod SortLaws
pub mod StepLaws
pub mod WalkLaws
