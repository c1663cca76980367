-- By whether a remote was asked, and then by the two identifiers.
use Rattle.std.proofs.Common.{Bool, sym, ap, ◌∙◌}
use Rattle.rules.proofs.Facts.{id_is}
use Rattle.rules.specs.Open.{agrees_on}
use Rattle.volume.specs.Volumes.{volume_says}
use Rattle.opencalls.specs.Opens.{asked_by}
use borrow.Author.Tests.{not-true, not-false}
use Rattle.opencalls.proofs.agrees.Goals as goal

pub returns-then-not-remote : goal.returns-then-not-remote
returns-then-not-remote c = sym (ap (λ (b : Bool). agrees_on (asked_by b c.args.remote.id) (volume_says c.args.v)) (not-true _ c.if-not-remote.true))

pub returns : goal.returns
returns c = c.same_id.ensures ∙ id_is _ _ ∙ sym (ap (λ (b : Bool). agrees_on (asked_by b c.args.remote.id) (volume_says c.args.v)) (not-false _ c.if-not-remote.false))
