-- The key and the volume behind it are the tag: the law `row_made`.
use Rattle.std.proofs.Common.{◌≡◌, length, rules}
use Rattle.tags.proofs.RowLaws.{row_made}
use Rattle.tags.proofs.tag_row.Goals as goal

pub returns : goal.returns
returns c =
    -- an identifier is 16 bytes
    let long : length c.args.vid ≡ 16 = search rules in
    row_made c.args.name.now c.args.vid _ _ _ c.requires (long) c.tag_key-key.ensures c.store_all.ensures c.store_id.ensures
