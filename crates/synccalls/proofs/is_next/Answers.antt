-- The latest LSN by its two cases; none is before 0.
use Rattle.std.proofs.Common.{sym, ap, ◌∙◌, Option}
use Rattle.basics.specs.declared.lsn.Lsn.{Lsn}
use Rattle.rules.specs.Push.{is_before}
use Rattle.volume.specs.Volumes.{maybe_lsn_says}
use Rattle.synccalls.proofs.Ends.{not_next, next_is}
use Rattle.synccalls.proofs.is_next.Goals as goal

pub returns-in_default : goal.returns-in_default
returns-in_default c = sym (ap (λ (m : Option Lsn). is_before (maybe_lsn_says m) c.args.lsn) c.in_default.is)

pub returns-then-lsn-eq0 : goal.returns-then-lsn-eq0
returns-then-lsn-eq0 c = sym ((ap (λ (m : Option Lsn). is_before (maybe_lsn_says m) c.args.lsn) c.in-Some.is) ∙ not_next c.in-Some.last.0 c.args.lsn c.if-lsn-eq0.true)

pub returns : goal.returns
returns c = next_is c.in-Some.last.0 c.args.lsn c.if-lsn-eq0.false ∙ sym (ap (λ (m : Option Lsn). is_before (maybe_lsn_says m) c.args.lsn) c.in-Some.is)
