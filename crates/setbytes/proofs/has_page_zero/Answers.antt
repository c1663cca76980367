-- Where there is a first window of index 0, bit 0 of its mask decides; windows above index 0 hold no page 0. Assumes nothing.
use Rattle.std.proofs.Common.{◌%◌, eqb, sym, ap, ◌∙◌, arith}
use Rattle.pageset.specs.Sets.{holds}
use Rattle.setbytes.specs.Laid.{windows_at}
use Rattle.setbytes.proofs.SetLaws.{empty_zero, zero_above, zero_first}
use Rattle.setbytes.proofs.has_page_zero.Goals as goal

pub returns-then-n-eq0 : goal.returns-then-n-eq0
returns-then-n-eq0 c =
    let a = c.args in
    sym (ap (λ n. holds (windows_at n a.at a.s.now) 0) c.if-n-eq0.true ∙ empty_zero a.at a.s.now)

pub returns-then-load32-ne0 : goal.returns-then-load32-ne0
returns-then-load32-ne0 c =
    let a = c.args in
    sym (zero_above a.n a.at a.s.now c.requires.s_value (omega arith) (λ e. c.if-load32-ne0.true (c.load32.ensures ∙ e)))

pub returns : goal.returns
returns c =
    let a = c.args in
    ap (λ m. eqb (m % 2) 1) c.load64.ensures ∙ sym (zero_first a.n a.at a.s.now c.requires.s_value (omega arith) (omega arith))
