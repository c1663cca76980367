-- The value is made of the fields at their places: the law `volume_made`.
use Rattle.std.proofs.Common.{◌∙◌}
use Rattle.volumebytes.proofs.ReadLaws.{volume_made}
use Rattle.volumebytes.proofs.volume_read.Goals as goal

pub returns : goal.returns
returns c =
    let t = c.args in
    c.new.ensures
    ∙ volume_made t.s.now t.at _ _ _ _ _ c.load_id-vid.ensures c.load_id-local.ensures c.load_id-remote.ensures c.sync_read-sync.ensures c.pending_read-pending.ensures
