-- The part of t that is stored has n bytes. Assumes nothing.
use Rattle.std.proofs.Common.{ℕ, List, refl, ap, ◌∙◌}
use Rattle.octets.specs.Bytes.{put}
use Rattle.octets.proofs.Places.{part_slice}
use Rattle.resultlists.proofs.copy.Goals as goal

pub returns : goal.returns
returns c = c.store_all.ensures ∙ ap (λ (b : List ℕ). put c.args.at b c.args.list.now) (part_slice _ _ _ _ refl)
