-- What is done of the masks, with what the others that are left make of the rest, is what all others make of all masks.
use mathlib.Core.Path.{◌≡◌}
use Rattle.masks.specs.Masks.{more_masks}
use Rattle.masks.proofs.MaskLaws.{more_from}
use Rattle.masks.proofs.more.Given as goal

abbrev pub invariant-loop-i : goal.invariant-loop-i
invariant-loop-i l = more_from l.n l.others l.i l.masks ≡ more_masks l.n l.initial.masks l.others
