-- LSN 0 is the highest complement; where the LSN is not 0, the checkpoints decide. Assumes nothing.
use Rattle.std.proofs.Common.{sym, ◌∙◌, arith}
use Rattle.commitbytes.proofs.CommitLaws.{lsn_zero, lsns_left}
use Rattle.commitbytes.proofs.commit_lsns_ok.Goals as goal

pub returns-then-load64-ge18446744073709551615 : goal.returns-then-load64-ge18446744073709551615
returns-then-load64-ge18446744073709551615 c =
    sym (lsn_zero c.args.s.now c.args.at c.requires (omega (arith, c.load64.ensures, c.if-load64-ge18446744073709551615.true)))

pub returns : goal.returns
returns c =
    c.lsns_count.ensures ∙ lsns_left c.args.s.now c.args.at c.requires (omega (arith, c.load64.ensures, c.if-load64-ge18446744073709551615.false))
