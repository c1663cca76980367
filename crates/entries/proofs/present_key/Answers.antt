-- The fields, one after another.
use Rattle.std.proofs.Common.{rules}
use Rattle.entries.proofs.BuiltKeys.{present_built}
use Rattle.entries.proofs.present_key.Goals as goal

pub returns : goal.returns
returns c = present_built c.args.sid (search rules) c.args.page.0 _ _ c.store_id.ensures c.store32.ensures
