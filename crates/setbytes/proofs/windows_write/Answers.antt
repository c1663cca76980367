-- What is left to store, stored behind the windows passed, gives the whole array stored. Assumes nothing.
use Rattle.std.proofs.Common.{◌≡◌, ◌+◌, ◌*◌, ◌≤◌, length, drop, sym, refl, ap, ◌∙◌, arith, rules}
use Rattle.octets.specs.Bytes.{put}
use Rattle.octets.specs.Flat.{flat}
use Rattle.octets.proofs.Flats.{flat_start, flat_turn, flat_done}
use Rattle.layout.specs.Values.{window_bytes}
use Rattle.setbytes.proofs.WindowLaws.{window_long}
use Rattle.setbytes.proofs.windows_write.Goals as goal

pub loop-i-init : goal.loop-i-init
loop-i-init c = (refl, flat_start 12 window_bytes.spell window_long _ _ _)

pub loop-i-preserved : goal.loop-i-preserved
loop-i-preserved c =
    let long : length c.args.ws ≡ 32 = search rules in
    let a = c.args in
    let l = c.loop-i in
    let h : a.at + 12 * length a.ws ≤ length l.s = omega arith in (
      search rules,
      ap (put (a.at + 12 * (l.i + 1)) (flat window_bytes.spell (drop (l.i + 1) a.ws))) c.window_write.ensures
          ∙ flat_turn 12 window_bytes.spell window_long a.at l.i a.ws _ l.s (omega arith) h
          ∙ l.invariant.1,
    )

pub returns : goal.returns
returns c =
    let long : length c.args.ws ≡ 32 = search rules in
    let a = c.args in
    let l = c.loop-i in
    sym (flat_done 12 window_bytes.spell window_long a.at l.i a.ws l.s (omega arith)) ∙ l.invariant.1
