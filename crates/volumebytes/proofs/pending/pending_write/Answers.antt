-- Zeros where it is missing; else the flag, the LSNs and the hash, which are one store: the law `pending_stored`.
use Rattle.std.proofs.Common.{◌≡◌, Option, length, sym, ap, ◌∙◌, rules}
use Rattle.octets.specs.Bytes.{put}
use Rattle.layout.specs.Codecs.{optional}
use Rattle.layout.specs.Records.{pending_bytes}
use Rattle.volume.specs.declared.volume.PendingCommit.{PendingCommit}
use Rattle.volume.specs.Volumes.{pending_says}
use Rattle.volumebytes.proofs.WriteLaws.{pending_stored}
use Rattle.volumebytes.proofs.pending.pending_write.Goals as goal

pub returns-in_default : goal.returns-in_default
unfolding pending_bytes
returns-in_default c =
    let t = c.args in
    c.store_all.ensures
    ∙ ap (λ (w : Option PendingCommit). put t.at ((optional pending_bytes).spell (pending_says w)) t.s.now) (sym c.in_default.is)

pub returns : goal.returns
returns c =
    -- a hash is 32 bytes
    let long : length c.in-Some.p.hash ≡ 32 = search rules in
    let t = c.args in
    pending_stored t.at t.s.now _ c.store8.ensures _ _ _ (record { local = _; commit = _; hash = _ }) c.requires (long) c.store64.ensures c.store64-2.ensures c.store_hash.ensures
    ∙ ap (λ (w : Option PendingCommit). put t.at ((optional pending_bytes).spell (pending_says w)) t.s.now) (sym c.in-Some.is)
