-- Test by test.
use Rattle.std.proofs.Common.{leb, ◌∙◌, ap₂, arith}
use Rattle.entries.proofs.Pass.{count_short, count_rest}
use Rattle.entries.proofs.count_fits.Goals as goal

pub returns-then-t-lt2 : goal.returns-then-t-lt2
returns-then-t-lt2 c = count_short c.args.stride c.args.t.now c.if-t-lt2.true

pub returns : goal.returns
returns c = ap₂ leb c.count.ensures.0 c.capacity.ensures ∙ count_rest c.args.stride c.args.t.now (omega arith)
