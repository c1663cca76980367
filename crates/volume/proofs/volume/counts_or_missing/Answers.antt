-- An LSN that is there counts where it is above 0. Assumes nothing.
use Rattle.volume.proofs.volume.counts_or_missing.Goals as goal

pub returns-in-Some : goal.returns-in-Some
returns-in-Some c = rw c.in-Some.is
