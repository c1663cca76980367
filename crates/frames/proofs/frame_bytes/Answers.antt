-- The place that was found lies within the lent bytes. Assumes nothing.
use Rattle.std.proofs.Common.{ℕ, ap, arith}
use mathlib.Core.Option.{Option}
use Rattle.basics.specs.Answers.{Answer}
use Rattle.frames.specs.Rules.{cut_bytes}
use Rattle.frames.proofs.frame_bytes.Goals as goal

pub slice_bounds-result-count : goal.slice_bounds-result-count
slice_bounds-result-count c = let h = rw c.in-Ok-Some.field-0-is at c.in-Ok-Some.ensures.within in omega (arith, h.0)

pub returns-in-Ok-Some : goal.returns-in-Ok-Some
returns-in-Ok-Some c =
    let e = rw c.in-Ok-Some.field-0-is at c.in-Ok-Some.ensures.says in
    ap (λ (o : Answer (Option (ℕ × ℕ))). cut_bytes o c.args.bytes.now) e

pub returns-in-Ok-None : goal.returns-in-Ok-None
returns-in-Ok-None c =
    let e = rw c.in-Ok-None.field-0-is at c.in-Ok-None.ensures.says in
    ap (λ (o : Answer (Option (ℕ × ℕ))). cut_bytes o c.args.bytes.now) e

pub returns-in-Err : goal.returns-in-Err
returns-in-Err c = ap (λ (o : Answer (Option (ℕ × ℕ))). cut_bytes o c.args.bytes.now) c.in-Err.ensures.says
