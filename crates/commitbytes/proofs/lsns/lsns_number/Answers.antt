-- As many as the count says, and at most 8. Assumes nothing.
use Rattle.commitbytes.proofs.LsnLaws.{lsns_number}
use Rattle.commitbytes.proofs.lsns.lsns_number.Goals as goal

pub returns : goal.returns
returns c =
    lsns_number c.args.s.now c.args.at c.requires _ c.count_read.ensures
