-- The two ways out are the two cases of the flag.
use Rattle.std.proofs.Common.{◌≡◌, ℕ, ◌+◌, List, Some, sym, ap, ◌∙◌, arith}
use mathlib.Core.Option.{some}
use Rattle.layout.specs.Records.{pending_bytes}
use Rattle.layout.proofs.PlaceLaws.{read_none, read_some}
use Rattle.volume.specs.declared.volume.PendingCommit.{PendingCommit}
use Rattle.basics.specs.Says.{lsn_laid}
use Rattle.volumebytes.specs.Laid.{pending_laid}
use Rattle.volumebytes.proofs.ReadLaws.{pending_read}
use Rattle.volumebytes.proofs.pending.pending_read.Goals as goal

-- a pending commit of its parts
made : (l m : ℕ) (h : List ℕ) (l' m' : ℕ) (h' : List ℕ) → l ≡ l' → m ≡ m' → h ≡ h'
    → ◌≡◌ {A = PendingCommit} (record { local = lsn_laid l; commit = lsn_laid m; hash = h }) (record { local = lsn_laid l'; commit = lsn_laid m'; hash = h' })
made l m h l' m' h' e f g = rw (e, f, g)

pub returns-then-load8-eq0 : goal.returns-then-load8-eq0
unfolding pending_bytes
returns-then-load8-eq0 c =
    let t = c.args in
    sym (ap pending_laid (read_none t.s.now t.at pending_bytes _ c.load8.ensures c.if-load8-eq0.true))

pub returns : goal.returns
unfolding pending_bytes
returns c =
    let t = c.args in
    ap (λ (p : PendingCommit). Some p) (made _ _ _ _ _ _ c.load64.ensures c.load64-2.ensures c.load_hash-hash.ensures)
    ∙ sym (ap pending_laid (read_some t.s.now t.at pending_bytes _ c.load8.ensures c.if-load8-eq0.false ∙ ap some (pending_read t.s.now (t.at + 1) (t.at + 9) (t.at + 17) (omega arith) (omega arith))))
