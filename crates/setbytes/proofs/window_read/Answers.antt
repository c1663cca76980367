-- The two numbers stand side by side. Assumes nothing.
use Rattle.std.proofs.Common.{sym, ◌∙◌, ap₂}
use Rattle.pageset.specs.declared.Window.{Window}
use Rattle.setbytes.proofs.WindowLaws.{window_at}
use Rattle.setbytes.proofs.window_read.Goals as goal

pub returns : goal.returns
returns c =
    let a = c.args in
    ap₂ {C = Window} (λ i m. record { index = i; mask = m }) c.load32-index.ensures c.load64-mask.ensures ∙ sym (window_at a.at a.s.now)
