-- A gap where no volume was asked; else its spot.
use Rattle.std.proofs.Common.{◌≡◌, ℕ, Bool, sym, ap, ◌∙◌, arith}
use Rattle.table.proofs.Ends.{at_in}
use Rattle.layout.specs.Tables.{volumes_in}
use Rattle.rules.specs.Open.{asked_volume}
use Rattle.opencalls.specs.Opens.{asked_by}
use borrow.Author.Tests.{not-true, not-false}
use Rattle.opencalls.proofs.asked_spot.Goals as goal

pub returns-then-not-w : goal.returns-then-not-w
returns-then-not-w c = record { says = sym (ap (λ (b : Bool). asked_volume (volumes_in c.args.volumes.now) (asked_by b c.args.w.id)) (not-true _ c.if-not-w.true)); inside = λ i e. let z : ◌≡◌ {A = ℕ} 0 1 = cc in absurd (omega arith) }

pub returns : goal.returns
returns c = record { says = c.find_volume.ensures.says ∙ sym (ap (λ (b : Bool). asked_volume (volumes_in c.args.volumes.now) (asked_by b c.args.w.id)) (not-false _ c.if-not-w.false)); inside = λ i e. at_in 117 17 c.args.volumes.now _ i _ c.find_volume.ensures.place e }
