-- The reserved byte is tested first; then the complement decides. Assumes nothing.
use Rattle.std.proofs.Common.{ℕ, ltb, sym, ap, ◌∙◌, arith}
use Rattle.commitbytes.proofs.PartLaws.{key_reserved, key_lsn}
use Rattle.commitbytes.proofs.parts.key_form.Goals as goal

pub returns-then-load8-ne0 : goal.returns-then-load8-ne0
returns-then-load8-ne0 c =
    sym (key_reserved c.args.s.now c.args.at (λ j. (c.type_inv.s j).fits) c.requires (λ e. c.if-load8-ne0.true (c.load8.ensures ∙ e)))

pub returns : goal.returns
returns c =
    ap (λ (n : ℕ). ltb n 18446744073709551615) c.load64.ensures ∙ key_lsn c.args.s.now c.args.at (λ j. (c.type_inv.s j).fits) c.requires (omega (arith, c.load8.ensures))
