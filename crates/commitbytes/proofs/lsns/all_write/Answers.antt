-- What is left to store, stored behind the LSNs passed, gives the whole array stored. Assumes nothing.
use Rattle.std.proofs.Common.{◌≡◌, ◌+◌, ◌*◌, ◌≤◌, length, drop, sym, refl, ap, ◌∙◌, arith, rules}
use Rattle.octets.specs.Bytes.{put}
use Rattle.octets.specs.Flat.{flat}
use Rattle.octets.proofs.Flats.{flat_start, flat_turn, flat_done}
use Rattle.commitbytes.proofs.LsnLaws.{lsn_spell, lsn_long}
use Rattle.commitbytes.proofs.lsns.all_write.Goals as goal

pub loop-i-init : goal.loop-i-init
loop-i-init c = (refl, flat_start 8 lsn_spell lsn_long _ _ _)

pub loop-i-preserved : goal.loop-i-preserved
loop-i-preserved c =
    let long : length c.args.ns ≡ 8 = search rules in
    let a = c.args in
    let l = c.loop-i in
    let h : a.at + 8 * length a.ns ≤ length l.s = omega arith in (
      search rules,
      ap (put (a.at + 8 * (l.i + 1)) (flat lsn_spell (drop (l.i + 1) a.ns))) c.store64.ensures
          ∙ flat_turn 8 lsn_spell lsn_long a.at l.i a.ns _ l.s (omega arith) h
          ∙ l.invariant.1,
    )

pub returns : goal.returns
returns c =
    let long : length c.args.ns ≡ 8 = search rules in
    let a = c.args in
    let l = c.loop-i in
    sym (flat_done 8 lsn_spell lsn_long a.at l.i a.ns l.s (omega arith)) ∙ l.invariant.1
