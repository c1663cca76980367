-- The name and its length over zeros are the key: the law `key_made`.
use Rattle.std.proofs.Common.{arith}
use Rattle.tags.proofs.RowLaws.{name_long, key_made}
use Rattle.tags.proofs.tag_key.Goals as goal

pub store_all-requires : goal.store_all-requires
store_all-requires c = omega (arith, name_long c.args.name.now c.requires)

pub overflow_cast-name : goal.overflow_cast-name
overflow_cast-name c = omega (arith, name_long c.args.name.now c.requires)

pub returns : goal.returns
returns c =
    key_made c.args.name.now _ _ c.requires c.store_all.ensures c.store8.ensures
