-- The gift is written into bytes of its own and read back.
use Rattle.std.specs.Prelude.{ℕ, List, replicate}
use mathlib.Core.Path.{sym, ap, ◌∙◌}
use native.Mathlib.Omega.{arith}
use lib.ListN.{length-replicate}
use Rattle.octets.specs.Bytes.{part, put}
use Rattle.rules.specs.Records.{Pages}
use Rattle.rules.specs.Write.{pages_of}
use Rattle.layout.specs.Values.{set_bytes}
use Rattle.setbytes.specs.Laid.{set_laid}
use Rattle.setbytes.proofs.LaidLaws.{says_laid, laid_normal}
use Rattle.setbytes.proofs.Trips.{set_read_again}
use Rattle.masks.specs.Masks.{given}
use Rattle.commits.specs.Places.{commit_at}
use Rattle.gifts.proofs.gift_set.Goals as goal

pub returns : goal.returns
returns c =
    let g = given (pages_of (commit_at c.args.commits.now c.args.i).segment) c.args.left.now in
    c.set_read.ensures
    ∙ ap (λ (f : List ℕ). set_laid (set_bytes.read (part 0 385 f))) (c.put_gift.ensures ∙ ap (λ (p : Pages). put 0 (set_bytes.spell p) (replicate 385 0)) (sym (says_laid g)))
    ∙ set_read_again (replicate 385 0) 0 (omega (arith, length-replicate {A = ℕ} 385 0)) (set_laid g) (laid_normal g c.requires.left_value)
