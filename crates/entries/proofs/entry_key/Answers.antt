-- The fields, one after another.
use Rattle.std.proofs.Common.{rules}
use Rattle.entries.proofs.BuiltKeys.{entry_built}
use Rattle.entries.proofs.entry_key.Goals as goal

pub returns : goal.returns
returns c = entry_built c.args.log (search rules) c.args.page.0 c.args.lsn.0 _ _ _ c.store_id.ensures c.store32.ensures c.store64.ensures
