-- The loop looks for index q: what is left of the windows has the mask of them all. Assumes nothing.
use Rattle.std.proofs.Common.{◌≡◌, drop}
use Rattle.pageset.specs.Sets.{mask_at}
use Rattle.pageset.proofs.form.mask_at.Given as goal

abbrev pub invariant-loop-w : goal.invariant-loop-w
invariant-loop-w l = mask_at (drop l.w-index l.w-items) l.q ≡ mask_at l.w-items l.q
