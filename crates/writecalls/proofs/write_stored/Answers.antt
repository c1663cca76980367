-- The new entries are counted, and the write is stored with their number.
use Rattle.writecalls.proofs.write_stored.Goals as goal

pub write_fresh-requires : goal.write_fresh-requires
write_fresh-requires c = record { commits_value = c.requires.commits_value; commit = c.requires.commit; c_value = c.requires.c_value; fresh_value = c.fresh_entries-fresh.ensures }
