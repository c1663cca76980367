-- Zeros where it is missing; else the flag, the remote LSN and the watermark, which are one store: the law `sync_stored`.
use Rattle.std.proofs.Common.{sym, ap, ◌∙◌, Option}
use Rattle.volume.specs.declared.volume.SyncPoint.{SyncPoint}
use Rattle.octets.specs.Bytes.{put}
use Rattle.layout.specs.Codecs.{optional}
use Rattle.layout.specs.Records.{sync_bytes}
use Rattle.volume.specs.Volumes.{sync_says}
use Rattle.volumebytes.proofs.WriteLaws.{sync_stored}
use Rattle.volumebytes.proofs.sync.sync_write.Goals as goal

pub returns-in_default : goal.returns-in_default
unfolding sync_bytes
returns-in_default c =
    let t = c.args in
    c.store_all.ensures
    ∙ ap (λ (w : Option SyncPoint). put t.at ((optional sync_bytes).spell (sync_says w)) t.s.now) (sym c.in_default.is)

pub returns : goal.returns
returns c =
    let t = c.args in
    sync_stored t.at t.s.now _ c.store8.ensures _ _ _ c.requires c.store64.ensures c.watermark_write.ensures
    ∙ ap (λ (w : Option SyncPoint). put t.at ((optional sync_bytes).spell (sync_says w)) t.s.now) (sym c.in-Some.is)
