-- The laws that other crates cite. `Walks`: a walk over the pages of a set from the last down. `Climbs`: its pages rise.
-- `LastLaws`: one window. `OneLast`: its last page and its rest are one.
pub mod LastLaws
pub mod OneLast
pub mod Walks
pub mod Climbs
