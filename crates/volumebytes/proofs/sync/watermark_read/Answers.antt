-- The two ways out are the two cases of the flag.
use Rattle.std.proofs.Common.{ℕ, sym, ap, ◌∙◌}
use mathlib.Core.Option.{some}
use Rattle.layout.specs.Codecs.{number}
use Rattle.layout.proofs.PlaceLaws.{read_none, read_some}
use Rattle.volumebytes.specs.Laid.{mark_laid}
use Rattle.volumebytes.proofs.sync.watermark_read.Goals as goal

pub returns-then-load8-eq0 : goal.returns-then-load8-eq0
returns-then-load8-eq0 c =
    let t = c.args in
    sym (ap mark_laid (read_none t.s.now t.at (number 8) _ c.load8.ensures c.if-load8-eq0.true))

pub returns : goal.returns
returns c =
    let t = c.args in
    ap (λ (n : ℕ). mark_laid (some n)) c.load64.ensures
    ∙ sym (ap mark_laid (read_some t.s.now t.at (number 8) _ c.load8.ensures c.if-load8-eq0.false))
