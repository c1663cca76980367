-- The chain tests each of the first n masks, which is what `no_masks` does one by one.
use mathlib.Core.Path.{◌∙◌}
use Rattle.std.proofs.Common.{rules, eqb, take}
use borrow.Author.Tests.{tests}
use Rattle.std.proofs.lemmas.Iterator.{YieldsList-from_slice}
use Rattle.std.proofs.lemmas.Iterator.Search.{all_from_yields_List}
use Prim.Native.Nat.{ℕ}
use Rattle.masks.proofs.MaskLaws.{all_none}
use Rattle.masks.proofs.none_left.Goals as goal

pub returns : goal.returns
returns c =
    all_from_yields_List (λ (m : ℕ). eqb m 0) _ _ _ c.all.ensures.ran (YieldsList-from_slice (take c.args.n c.args.masks.now) c.iter.ensures.rest) (λ x b q k. search (rules, tests))
    ∙ all_none c.args.n c.args.masks.now
