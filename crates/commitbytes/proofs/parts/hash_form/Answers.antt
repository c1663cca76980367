-- Zeros behind a flag 0, else the flag is 1. Assumes nothing.
use Rattle.std.proofs.Common.{ℕ, eqb, sym, ap, ◌∙◌}
use Rattle.rules.specs.Forms.{hash_form}
use Rattle.layout.specs.Records.{hash_bytes}
use Rattle.commitbytes.proofs.PartLaws.{none_form, hash_some}
use Rattle.commitbytes.proofs.parts.hash_form.Goals as goal

pub returns-then-flag-eq0 : goal.returns-then-flag-eq0
returns-then-flag-eq0 c =
    c.all_zero.ensures ∙ none_form hash_bytes c.args.s.now c.args.at (λ j. (c.type_inv.s j).fits) hash_form c.requires (sym c.load8-flag.ensures ∙ c.if-flag-eq0.true)

pub returns : goal.returns
returns c =
    ap (λ (n : ℕ). eqb n 1) c.load8-flag.ensures ∙ hash_some c.args.s.now c.args.at (λ j. (c.type_inv.s j).fits) c.requires (λ e. c.if-flag-eq0.false (c.load8-flag.ensures ∙ e))
