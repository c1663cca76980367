-- The LSN by its two cases.
use Rattle.std.proofs.Common.{sym, ap, Option}
use Rattle.basics.specs.declared.lsn.Lsn.{Lsn}
use Rattle.rules.specs.Snapshots.{is_at}
use Rattle.volume.specs.Volumes.{maybe_lsn_says}
use Rattle.viewcalls.proofs.is_at.Goals as goal

pub returns-in-Some : goal.returns-in-Some
returns-in-Some c = sym (ap (λ (m : Option Lsn). is_at (maybe_lsn_says m) c.args.lsn.0) c.in-Some.is)
