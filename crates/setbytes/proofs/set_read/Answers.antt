-- The windows that count, and zeros, are the set of what the bytes spell. Assumes nothing.
use Rattle.setbytes.proofs.SetLaws.{set_made}
use Rattle.setbytes.proofs.set_read.Goals as goal

pub returns : goal.returns
returns c =
    set_made c.args.s.now c.args.at c.requires _ _ c.count_read-len.ensures c.windows_read-windows.ensures
