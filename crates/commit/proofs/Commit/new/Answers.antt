-- What is missing is zero. Assumes nothing.
use Rattle.commit.proofs.Commit.new.Goals as goal

pub returns : goal.returns
returns c = rw (c.zero-hash.ensures, c.zero-segment.ensures, c.no_checkpoints-checkpoints.ensures)
