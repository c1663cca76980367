-- The array holds the windows passed, and zeros past them. Assumes nothing.
use Rattle.std.proofs.Common.{◌≡◌, ◌+◌, ◌*◌, ◌++◌, length, drop}
use Rattle.octets.specs.Bytes.{part}
use Rattle.octets.specs.Tab.{tab}
use Rattle.layout.specs.Values.{window_bytes}
use Rattle.setbytes.proofs.windows_read.Given as goal

abbrev pub invariant-loop-i : goal.invariant-loop-i
invariant-loop-i l = (length l.ws ≡ 32) × (l.ws ≡ tab (λ k. window_bytes.read (part (l.at + k * 12) 12 l.s)) l.i ++ drop l.i l.initial.ws)
