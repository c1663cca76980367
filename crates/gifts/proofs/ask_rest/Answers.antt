-- What is left of the pages asked for is added.
use mathlib.Core.Path.{ap, ◌∙◌}
use Rattle.std.specs.Prelude.{not}
use Rattle.masks.specs.Masks.{more_masks}
use Rattle.gifts.proofs.ask_rest.Goals as goal

pub returns : goal.returns
returns c = record { value = ap not c.none_left.ensures; left_after = c.more.ensures ∙ ap (more_masks c.args.n c.args.left.now) c.ask_all.ensures }
