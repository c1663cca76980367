-- The call's promise of its three tables.
use Rattle.keeping.proofs.Writes.{write_keeps}
use Rattle.keeping.proofs.writecall.write_commit.Goals as goal

pub returns : goal.returns
returns c = let g = c.args in
    let e = c.sigatuda_write_commit.ensures in
    let whole = write_keeps g.commits.now g.checkpoints.now g.index.now g.commit.now _ _ _ e.commits_after e.checkpoints_after e.index_after in
    record { keeps = whole.0; logs_stay_formed = whole.1.0; stays_exact_while = whole.1.1 }
