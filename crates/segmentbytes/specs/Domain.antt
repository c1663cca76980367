-- The domain of frames that start at a given page; of a segment's frames that is the starting page of its set.
use Rattle.std.specs.Prelude.{ℕ, Bool, ◌&&◌, List, length, nat_le}
use Rattle.basics.specs.Numbers.{last_lsn}
use Rattle.rules.specs.Records.{Frame}
use Rattle.rules.specs.Forms.{lasts_from, total}

-- the last pages strictly rise from a page on, and the sizes sum to at most a number
abbrev pub domain : ℕ → ℕ → List Frame → Bool
domain page room fs = lasts_from page fs && nat_le (total fs) room

-- at most 16 frames in their domain
unfoldable pub frames_from : ℕ → List Frame → Bool
frames_from page fs = nat_le (length fs) 16 && lasts_from page fs && nat_le (total fs) last_lsn
