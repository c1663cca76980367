-- Where the answer is a refusal, the contract has the place as it was.
use Rattle.std.proofs.Common.{ℕ}
use Rattle.rules.specs.Reads.{checkpoint_read}
use Rattle.layout.specs.Tables.{checkpoints_in, checkpoints_ok}
use Rattle.layout.specs.Lent.{lent}
use Rattle.refusals.proofs.Laws.{maybe_left}
use Rattle.placerefusals.proofs.searchcall.checkpoint_at.Goals as goal

pub returns : goal.returns
returns c =
    let g = c.args in
    maybe_left (λ (m : ℕ). m) _ (lent (checkpoints_ok g.checkpoints.now) (checkpoint_read (checkpoints_in g.checkpoints.now) g.log.now g.lsn)) _ _ c.sigatuda_checkpoint_at.ensures
