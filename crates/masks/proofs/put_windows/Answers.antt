-- Behind the windows that are written, what the rest give stands to be written; with it the list is what all of them give.
use Prim.Native.Nat.{ℕ, ◌+◌, ◌-◌, ◌*◌}
use mathlib.Core.Path.{◌≡◌, sym, ap, ◌∙◌}
use native.Mathlib.Omega.{arith}
use lib.ListN.{length}
use Rattle.octets.specs.Bytes.{bytes_of, put}
use Rattle.rules.specs.Records.{Pages}
use Rattle.setbytes.specs.Laid.{windows_at}
use Rattle.masks.specs.Masks.{given}
use Rattle.masks.proofs.PutLaws.{given_from, spelled, left_few, left_none, left_out, left_in, none_put, window_put}
use Rattle.masks.proofs.put_windows.Goals as goal

pub loop-i-init : goal.loop-i-init
loop-i-init c =
    let a = c.args in
    let e : a.to + 0 * 12 ≡ a.to = omega arith in
    (omega arith, omega arith, omega arith, ap (λ (k : ℕ). put k (spelled (given (windows_at a.n a.at a.s.now) a.masks.now)) a.list.now) e)

pub loop-i-preserved : goal.loop-i-preserved
loop-i-preserved c =
    let a = c.args in
    let l = c.loop-i in
    let rest = given_from a.n a.at a.s.now a.masks.now (l.i + 1) in
    let e = left_in a.n a.at a.s.now a.masks.now l.i (omega arith) (omega arith) c.if-mask-eq0.false in
    let f = left_few a.n a.at a.s.now a.masks.now (l.i + 1) in (
      omega arith,
      omega arith,
      omega (arith, ap length e),
      window_put a.to l.w _ rest l.list _ _ (omega arith) (c.store32.ensures ∙ ap (λ (k : ℕ). put (a.to + l.w * 12) (bytes_of 4 k) l.list) c.load32.ensures) c.store64.ensures
          ∙ ap (λ (r : Pages). put (a.to + l.w * 12) (spelled r) l.list) (sym e)
          ∙ l.invariant.3,
    )

pub loop-i-preserved-then-mask-eq0 : goal.loop-i-preserved-then-mask-eq0
loop-i-preserved-then-mask-eq0 c =
    let a = c.args in
    let l = c.loop-i in
    let e = left_out a.n a.at a.s.now a.masks.now l.i (omega arith) (omega arith) (omega arith) in (
      omega arith,
      l.invariant.1,
      ap (λ (r : Pages). l.w + length r) e ∙ l.invariant.2,
      ap (λ (r : Pages). put (a.to + l.w * 12) (spelled r) l.list) e ∙ l.invariant.3,
    )

pub returns : goal.returns
returns c = let a = c.args in
    let l = c.loop-i in
    let e = left_none a.n a.at a.s.now a.masks.now l.i (omega arith) in record { value = (omega (arith, ap length e), omega arith); list_after = sym (none_put (a.to + l.w * 12) l.list) ∙ ap (λ (r : Pages). put (a.to + l.w * 12) (spelled r) l.list) (sym e) ∙ l.invariant.3 }
