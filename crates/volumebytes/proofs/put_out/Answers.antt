-- The bytes of a volume are as many as are lent.
use Rattle.std.proofs.Common.{◌≡◌, Some, length, sym, ◌∙◌, rules}
use Rattle.octets.proofs.Places.{put_all}
use Rattle.volume.specs.Volumes.{volume_says}
use Rattle.volume.specs.declared.volume.PendingCommit.{PendingCommit}
use Rattle.layout.specs.Records.{volume_bytes}
use Rattle.volumebytes.proofs.WriteLaws.{length_volume, long_hash}
use Rattle.volumebytes.proofs.put_out.Goals as goal

pub returns : goal.returns
returns c =
    -- identifiers are 16 bytes, a hash is 32
    let v = c.args.v in
    let long : (length v.vid ≡ 16) × (length v.local ≡ 16) × (length v.remote ≡ 16) = (search rules, search rules, search rules) in
    let hash : (p : PendingCommit) → v.pending ≡ Some p → length p.hash ≡ 32 = search rules in
    c.volume_write.ensures ∙ put_all (volume_bytes.spell (volume_says v)) _ (length_volume (volume_says v) long.0 long.1 long.2 (long_hash v.pending hash) ∙ sym c.requires)
