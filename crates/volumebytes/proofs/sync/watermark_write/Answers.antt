-- Zeros where it is missing; else the flag and the LSN, which are one store: the law `mark_stored`.
use Rattle.std.proofs.Common.{sym, ap, ◌∙◌, Option}
use Rattle.basics.specs.declared.lsn.Lsn.{Lsn}
use Rattle.octets.specs.Bytes.{put}
use Rattle.layout.specs.Codecs.{number, optional}
use Rattle.volume.specs.Volumes.{maybe_lsn_says}
use Rattle.volumebytes.proofs.WriteLaws.{mark_stored}
use Rattle.volumebytes.proofs.sync.watermark_write.Goals as goal

pub returns-in_default : goal.returns-in_default
returns-in_default c =
    let t = c.args in
    c.store_all.ensures
    ∙ ap (λ (w : Option Lsn). put t.at ((optional (number 8)).spell (maybe_lsn_says w)) t.s.now) (sym c.in_default.is)

pub returns : goal.returns
returns c =
    let t = c.args in
    mark_stored t.at t.s.now _ c.store8.ensures _ _ c.requires c.store64.ensures
    ∙ ap (λ (w : Option Lsn). put t.at ((optional (number 8)).spell (maybe_lsn_says w)) t.s.now) (sym c.in-Some.is)
