-- The page is bit p mod 64 of the mask of window p div 64. Assumes nothing.
use Rattle.std.proofs.Common.{ℕ, ◌%◌, ap, ◌∙◌}
use Rattle.pageset.specs.Sets.{bit, holds}
use Rattle.pageset.proofs.form.has_page.Goals as goal

pub returns : goal.returns
unfolding holds
returns c = c.has_bit.ensures ∙ ap (λ (m : ℕ). bit m (c.args.p % 64)) c.mask_at-m.ensures
