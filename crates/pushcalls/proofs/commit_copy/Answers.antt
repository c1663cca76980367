-- The row begins at its place, and as many bytes are loaded as a record has.
use Rattle.std.proofs.Common.{ℕ, ◌∙◌, ap₂}
use lib.ListN.{length-replicate}
use Rattle.octets.specs.Bytes.{part}
use Rattle.pushcalls.proofs.commit_copy.Goals as goal

pub returns : goal.returns
returns c = c.load_all.ensures ∙ ap₂ (λ (a n : ℕ). part a n c.args.t.now) c.row.ensures.0 (length-replicate {A = ℕ} 722 0)
