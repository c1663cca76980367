-- The call answers the rule on the table that the bytes hold, and its answer is put in the lent place, whose 3 comes behind 20 and before 4. Assumes nothing.
use Rattle.std.proofs.Common.{ap, ◌∙◌}
use Rattle.tablereplies.specs.Records.{volume_put}
use Rattle.tablereplies.proofs.ReplyLaws.{read_at, left_volume}
use Rattle.boundary.proofs.volumecall.sigatuda_volume_read.Goals as goal

pub returns : goal.returns
returns c =
    let g = c.args in
    c.put_volume.ensures ∙ ap (volume_put g.out.now) (read_at _ ∙ c.volume_read.ensures) ∙ left_volume g.out.now g.volumes.now g.vid.now
