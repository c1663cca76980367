-- The two numbers are loaded where the entry stands. Assumes nothing.
use Rattle.std.proofs.Common.{ℕ, ◌+◌, ◌*◌, ◌∷◌, drop, sym, refl, ◌∙◌, ap₂, arith}
use Rattle.segmentargs.specs.Lists.{segment_in}
use Rattle.segmentargs.proofs.ListLaws.{frames_few, entry_at}
use Rattle.segmentargs.proofs.lists.entry_in.Goals as goal

pub overflow_mul-from : goal.overflow_mul-from
overflow_mul-from c = omega (arith, frames_few c.args.b.now c.args.at c.requires.0)

pub overflow_add-from-2 : goal.overflow_add-from-2
overflow_add-from-2 c = omega (arith, frames_few c.args.b.now c.args.at c.requires.0)

pub load64-size-requires : goal.load64-size-requires
load64-size-requires c = omega (arith, frames_few c.args.b.now c.args.at c.requires.0)

pub overflow_add-from-3 : goal.overflow_add-from-3
overflow_add-from-3 c = omega (arith, frames_few c.args.b.now c.args.at c.requires.0)

pub load32-requires : goal.load32-requires
load32-requires c = omega (arith, frames_few c.args.b.now c.args.at c.requires.0)

pub returns : goal.returns
returns c =
    entry_at c.args.b.now c.args.at c.requires.0 c.args.k (c.args.at + 402 + c.args.k * 12) c.requires.1 refl
    ∙ ap₂ (λ (x y : ℕ). record { size = x; last = y } ∷ drop (c.args.k + 1) (segment_in c.args.at c.args.b.now).frames) (sym c.load64-size.ensures) (sym c.load32.ensures)
