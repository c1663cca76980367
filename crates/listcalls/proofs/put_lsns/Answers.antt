-- The invariant: the LSNs of the rows from `from` up to i stand in the list, one after another. Assumes nothing.
use Rattle.std.proofs.Common.{◌≡◌, ℕ, refl, ap, ◌∙◌, arith, rules}
use Rattle.octets.specs.Bytes.{put, bytes_of}
use Rattle.octets.specs.Flat.{flat}
use Rattle.listcalls.proofs.RangeLaws.{lsns, lsns_none, lsns_turn}
use Rattle.listcalls.proofs.put_lsns.Goals as goal

pub loop-i-init : goal.loop-i-init
loop-i-init c = (refl, lsns_none c.args.commits.now c.requires.0 c.args.from c.args.to c.args.list.now)

pub overflow_sub-i : goal.overflow_sub-i
overflow_sub-i c = omega arith

pub overflow_mul-i : goal.overflow_mul-i
overflow_mul-i c = omega arith

pub lsn_at-requires : goal.lsn_at-requires
lsn_at-requires c = (c.requires.0, omega arith)

pub store64-requires : goal.store64-requires
store64-requires c = omega arith

pub loop-i-preserved : goal.loop-i-preserved
loop-i-preserved c = (
  search rules,
  lsns_turn c.args.commits.now c.requires.0 c.args.from c.args.to c.args.list.now c.loop-i.i c.loop-i.list _ c.lsn_at.result (omega arith) (omega arith) (omega arith) (omega arith) c.loop-i.invariant.1 c.lsn_at.ensures c.store64.ensures,
)

pub returns : goal.returns
returns c =
    let e : c.loop-i.i ≡ c.args.to = omega arith in
    c.loop-i.invariant.1.bytes ∙ ap (λ (k : ℕ). put 0 (flat (bytes_of 8) (lsns c.args.commits.now c.args.from k)) c.args.list.now) e
