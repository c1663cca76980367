-- 20 where the table is not formed; else the volume that the lookup found, or 4.
use Rattle.std.proofs.Common.{sym, ap, ◌∙◌}
use mathlib.Core.Option.{Option}
use Rattle.basics.specs.Answers.{need, done}
use Rattle.layout.proofs.LentLaws.{lent_no}
use Rattle.rules.specs.Records.{Volume}
use Rattle.volume.specs.Volumes.{volume_says}
use Rattle.volume.specs.declared.volume.Volume.{Volume as CodeVolume}
use Rattle.volumebytes.specs.Laid.{volume_laid}
use Rattle.volumebytes.proofs.RoundLaws.{says_laid}
use Rattle.volumecalls.proofs.Ends.{made_of, here, nowhere, read_is}
use Rattle.layout.specs.Tables.{volumes_in}
use Rattle.rows.specs.Lookups.{nth}
use Rattle.table.proofs.Ends.{at_in}
use Rattle.volumecalls.proofs.volume_read.Goals as goal

pub returns-then-not-volumes_formed : goal.returns-then-not-volumes_formed
returns-then-not-volumes_formed c = sym (lent_no _ _ (sym c.volumes_formed.ensures ∙ c.if-not-volumes_formed.true))

pub find_volume-requires : goal.find_volume-requires
find_volume-requires c = (sym c.volumes_formed.ensures ∙ c.if-not-volumes_formed.false)

pub returns-in_default : goal.returns-in_default
returns-in_default c = sym (read_is c.args.volumes.now c.args.vid (sym c.volumes_formed.ensures ∙ c.if-not-volumes_formed.false) ∙ ap (λ (o : Option Volume). need o 4) (nowhere c.args.volumes.now c.args.vid (sym c.volumes_formed.ensures ∙ c.if-not-volumes_formed.false) _ _ c.find_volume.ensures.says c.in_default.is))

pub volume_at-requires : goal.volume_at-requires
volume_at-requires c = ((sym c.volumes_formed.ensures ∙ c.if-not-volumes_formed.false), at_in 117 17 c.args.volumes.now _ _ _ c.find_volume.ensures.place c.in-Ok.is)

pub returns : goal.returns
returns c = made_of volume_laid (nth c.in-Ok.i (volumes_in c.args.volumes.now).rows) c.volume_at.result c.volume_at.ensures (λ v e q. ap (λ (x : CodeVolume). done (volume_says x)) (sym q) ∙ ap (λ (w : Volume). done w) (says_laid v) ∙ sym (read_is c.args.volumes.now c.args.vid (sym c.volumes_formed.ensures ∙ c.if-not-volumes_formed.false) ∙ ap (λ (o : Option Volume). need o 4) (sym (here c.args.volumes.now c.args.vid (sym c.volumes_formed.ensures ∙ c.if-not-volumes_formed.false) _ _ c.find_volume.ensures.says c.in-Ok.is) ∙ e)))
