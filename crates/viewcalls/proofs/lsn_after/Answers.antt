-- A watermark that is below an LSN has a next.
use Rattle.std.proofs.Common.{sym, ap, ◌∙◌, arith, ltb-true, Option}
use Rattle.basics.specs.declared.lsn.Lsn.{Lsn}
use Rattle.rules.specs.Snapshots.{below, after}
use Rattle.volume.specs.Volumes.{maybe_lsn_says}
use Rattle.viewcalls.proofs.lsn_after.Goals as goal

pub overflow_add-result : goal.overflow_add-result
overflow_add-result c = omega (arith, ltb-true c.in-Some.w.0 c.args.lsn (sym (ap (λ (m : Option Lsn). below (maybe_lsn_says m) c.args.lsn) c.in-Some.is) ∙ c.requires), c.ranges.lsn)

pub returns-in-Some : goal.returns-in-Some
returns-in-Some c = sym (ap (λ (m : Option Lsn). after (maybe_lsn_says m)) c.in-Some.is)
