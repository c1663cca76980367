-- The windows are stored behind the place of the count, zeros behind them, and the count last: a set's bytes.
use native.Mathlib.Omega.{arith}
use Rattle.setbytes.specs.Laid.{windows_at}
use Rattle.masks.specs.Masks.{given}
use Rattle.masks.proofs.PutLaws.{set_put_lem}
use Rattle.masks.proofs.put_given.Goals as goal

pub returns : goal.returns
returns c =
    let a = c.args in
    let p = c.put_windows-w in
    set_put_lem a.to (given (windows_at a.n a.at a.s.now) a.masks.now) p.result a.list.now _ _ _ p.ensures.value.0 (omega arith) (omega arith) p.ensures.list_after c.put_zeros.ensures c.store8.ensures
