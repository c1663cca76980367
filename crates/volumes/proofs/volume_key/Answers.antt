-- The identifier behind a zero: the law `key_made`.
use Rattle.std.proofs.Common.{◌≡◌, length, rules}
use Rattle.volumes.proofs.VolumeLaws.{key_made}
use Rattle.volumes.proofs.volume_key.Goals as goal

pub returns : goal.returns
returns c =
    -- an identifier is 16 bytes
    let long : length c.args.vid ≡ 16 = search rules in
    key_made c.args.vid _ (long) c.store_id.ensures
