-- The key's bytes over zeros: the law `key_alone`.
use Rattle.std.proofs.Common.{rules}
use Rattle.layout.proofs.PlaceLaws.{key_alone}
use Rattle.layout.proofs.log_key.Goals as goal

pub returns : goal.returns
returns c = key_alone c.args.lsn c.args.log _ (search rules) c.key_write.ensures
