-- `put_decimal` meets its contract: the digits at the end of the bytes are stored at the place. Assumes nothing.
use native.Mathlib.Omega.{arith}
use mathlib.Core.Path.{ap, ◌∙◌}
use Prim.Native.Nat.{ℕ}
use mathlib.Core.List.{List}
use Rattle.octets.specs.Bytes.{put}
use Rattle.calltext.proofs.DigitLaws.{shown}
use Rattle.calltext.proofs.put_decimal.Goals as goal

pub returns : goal.returns
returns c = let a = c.args in let d = shown a.n c.digits-d.result.from c.digits-d.result.bytes c.digits-d.ensures.2 c.digits-d.ensures.1 in (c.store_all.ensures ∙ ap (λ (ys : List ℕ). put a.at ys a.out.now) d.0, omega (arith, d.1), omega (arith, d.1))
