-- By whether a vid was asked, and then by its spare.
use Rattle.std.proofs.Common.{Bool, sym, ap, ◌∙◌}
use Rattle.rules.specs.Open.{vid_free}
use Rattle.layout.specs.Tables.{volumes_in}
use Rattle.opencalls.specs.Opens.{asked_by}
use Rattle.opencalls.proofs.vid_free.Goals as goal

pub returns : goal.returns
returns c =
    let a = c.args in
    c.vid_free.ensures ∙ sym (ap (λ (b : Bool). vid_free (volumes_in a.volumes.now) (asked_by b a.w.id) a.w.spare) c.if-w.false)
