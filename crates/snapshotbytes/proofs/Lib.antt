-- `Reading`: what is asked of the bytes of a snapshot, and what they spell; `Writing`: the bytes of a snapshot in form, and the two round trips.
pub mod Reading
pub mod Writing
