-- What each builder makes: one field changed, all others kept. Where something is missing, zeros stand beside it.
use Rattle.std.specs.Prelude.{ℕ, List, replicate}
use Rattle.basics.specs.declared.lsn.Lsn.{Lsn}
use Rattle.basics.specs.declared.page_count.PageCount.{PageCount}
use Rattle.basics.specs.Hashes.{zero_hash}
use Rattle.pageset.specs.declared.PageSet.{PageSet}
use Rattle.pageset.specs.Says.{empty_set}
use Rattle.commit.specs.declared.Presence.{Presence}
use Rattle.commit.specs.declared.Presence.TheVariants.{Missing}
use Rattle.commit.specs.declared.Frame.{Frame}
use Rattle.commit.specs.declared.SegmentIdx.{SegmentIdx}
use Rattle.commit.specs.declared.Commit.{Commit}

-- the frame that counts for nothing
abbrev pub zero_frame : Frame
zero_frame = record { size = 0; last = record { 0 = 0 } }

-- sixteen of them
abbrev pub zero_frames : List Frame
zero_frames = replicate 16 zero_frame

-- eight LSNs that count for nothing
abbrev pub zero_lsns : List Lsn
zero_lsns = replicate 8 (record { 0 = 0 })

-- a segment without frames
abbrev pub new_segment : List ℕ → PageSet → SegmentIdx
new_segment sid pages = record { sid = sid; pages = pages; len = 0; frames = zero_frames }

-- what stands where a segment is missing
abbrev pub zero_segment : SegmentIdx
zero_segment = new_segment (replicate 16 0) empty_set

-- other frames
abbrev pub with_frames : SegmentIdx → ℕ → List Frame → SegmentIdx
with_frames s len frames = record { sid = s.sid; pages = s.pages; len = len; frames = frames }

-- a commit without hash, segment and checkpoints
abbrev pub new_commit : List ℕ → Lsn → PageCount → Commit
new_commit log lsn count =
    record { log = log; lsn = lsn; count = count; has_hash = Missing; hash = zero_hash; has_segment = Missing; segment = zero_segment; listed = 0; checkpoints = zero_lsns }

-- another log
abbrev pub with_log : Commit → List ℕ → Commit
with_log c log =
    record { log = log; lsn = c.lsn; count = c.count; has_hash = c.has_hash; hash = c.hash; has_segment = c.has_segment; segment = c.segment; listed = c.listed; checkpoints = c.checkpoints }

-- another LSN
abbrev pub with_lsn : Commit → Lsn → Commit
with_lsn c lsn =
    record { log = c.log; lsn = lsn; count = c.count; has_hash = c.has_hash; hash = c.hash; has_segment = c.has_segment; segment = c.segment; listed = c.listed; checkpoints = c.checkpoints }

-- another hash
abbrev pub with_hash : Commit → Presence → List ℕ → Commit
with_hash c has hash =
    record { log = c.log; lsn = c.lsn; count = c.count; has_hash = has; hash = hash; has_segment = c.has_segment; segment = c.segment; listed = c.listed; checkpoints = c.checkpoints }

-- another segment
abbrev pub with_segment : Commit → Presence → SegmentIdx → Commit
with_segment c has segment =
    record { log = c.log; lsn = c.lsn; count = c.count; has_hash = c.has_hash; hash = c.hash; has_segment = has; segment = segment; listed = c.listed; checkpoints = c.checkpoints }

-- other checkpoints
abbrev pub with_checkpoints : Commit → ℕ → List Lsn → Commit
with_checkpoints c listed checkpoints =
    record { log = c.log; lsn = c.lsn; count = c.count; has_hash = c.has_hash; hash = c.hash; has_segment = c.has_segment; segment = c.segment; listed = listed; checkpoints = checkpoints }
