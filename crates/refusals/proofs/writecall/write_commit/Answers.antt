-- The number is the answer's, and a refused answer leaves all three tables.
use Rattle.refusals.proofs.Laws.{write_left}
use Rattle.refusals.proofs.writecall.write_commit.Goals as goal

pub returns : goal.returns
returns c = let whole = write_left _ _ _ _ _ _ _ _ c.sigatuda_write_commit.ensures.value c.sigatuda_write_commit.ensures.commits_after c.sigatuda_write_commit.ensures.checkpoints_after c.sigatuda_write_commit.ensures.index_after in
    record { as_found = whole.0; as_found_2 = whole.1.0; as_found_3 = whole.1.1 }
