-- The two ways out are the two cases of the flag.
use Rattle.std.proofs.Common.{ℕ, ◌+◌, sym, ap, ◌∙◌, ap₂, arith, Option, Some}
use mathlib.Core.Option.{some}
use Rattle.basics.specs.declared.lsn.Lsn.{Lsn}
use Rattle.layout.specs.Records.{sync_bytes}
use Rattle.layout.proofs.PlaceLaws.{read_none, read_some}
use Rattle.basics.specs.Says.{lsn_laid}
use Rattle.volumebytes.specs.Laid.{sync_laid}
use Rattle.volumebytes.proofs.ReadLaws.{sync_read}
use Rattle.volumebytes.proofs.sync.sync_read.Goals as goal

pub returns-then-load8-eq0 : goal.returns-then-load8-eq0
unfolding sync_bytes
returns-then-load8-eq0 c =
    let t = c.args in
    sym (ap sync_laid (read_none t.s.now t.at sync_bytes _ c.load8.ensures c.if-load8-eq0.true))

pub returns : goal.returns
unfolding sync_bytes
returns c =
    let t = c.args in
    ap₂ (λ (n : ℕ) (w : Option Lsn). Some (record { remote = lsn_laid n; watermark = w })) c.load64.ensures c.watermark_read-watermark.ensures
    ∙ sym (ap sync_laid (read_some t.s.now t.at sync_bytes _ c.load8.ensures c.if-load8-eq0.false ∙ ap some (sync_read t.s.now (t.at + 1) (t.at + 9) (omega arith))))
