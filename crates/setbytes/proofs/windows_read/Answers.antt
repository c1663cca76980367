-- The array holds the windows passed, and zeros past them. Assumes nothing.
use Rattle.std.proofs.Common.{ℕ, ◌+◌, ◌*◌, set, replicate, ap, ◌∙◌, arith, rules}
use Rattle.octets.specs.Bytes.{part}
use Rattle.octets.proofs.Tabs.{tab_none, tab_more}
use Rattle.pageset.specs.declared.Window.{Window}
use Rattle.pageset.specs.Sets.{zero_window}
use Rattle.layout.specs.Values.{window_bytes}
use Rattle.setbytes.specs.Laid.{windows_at}
use Rattle.setbytes.proofs.ListLaws.{filled}
use Rattle.setbytes.proofs.windows_read.Goals as goal

pub loop-i-init : goal.loop-i-init
loop-i-init c = (search rules, tab_none _ _)

pub loop-i-preserved : goal.loop-i-preserved
loop-i-preserved c =
    let a = c.args in
    let l = c.loop-i in
    let f : ℕ → Window = λ k. window_bytes.read (part (a.at + k * 12) 12 a.s.now) in
    (search rules, ap (λ (w : Window). set l.ws l.i w) c.window_read.ensures ∙ tab_more f (replicate 32 zero_window) l.ws zero_window l.i l.invariant.1 (omega arith))

pub returns : goal.returns
unfolding windows_at
returns c =
    let a = c.args in
    let l = c.loop-i in
    filled window_bytes.read 12 a.n a.at a.s.now zero_window 32 l.ws l.i l.invariant.1 (omega arith)
