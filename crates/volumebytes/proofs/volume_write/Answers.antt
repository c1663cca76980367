-- The seven stores are one: the law `volume_stored`.
use Rattle.std.proofs.Common.{◌≡◌, Some, length, rules}
use Rattle.volume.specs.Volumes.{volume_says}
use Rattle.volume.specs.declared.volume.PendingCommit.{PendingCommit}
use Rattle.volumebytes.proofs.WriteLaws.{long_hash, volume_stored}
use Rattle.volumebytes.proofs.volume_write.Goals as goal

pub returns : goal.returns
returns c =
    -- identifiers are 16 bytes, a hash is 32
    let v = c.args.v in
    let long : (length v.vid ≡ 16) × (length v.local ≡ 16) × (length v.remote ≡ 16) = (search rules, search rules, search rules) in
    let hash : (p : PendingCommit) → v.pending ≡ Some p → length p.hash ≡ 32 = search rules in
    volume_stored c.args.at (volume_says v) c.args.s.now _ _ _ _ _ _ _ c.requires long.0 long.1 long.2 (long_hash v.pending hash) c.store8.ensures c.store_id.ensures c.store8-2.ensures c.store_id-2.ensures c.store_id-3.ensures c.sync_write.ensures c.pending_write.ensures
