-- The fields of a snapshot, one after another.
use Rattle.std.specs.Prelude.{◌≡◌, length}
use mathlib.Core.Path.{sym, ap, ◌∙◌}
use native.Mathlib.Omega.{arith}
use Rattle.octets.specs.Bytes.{put}
use Rattle.octets.proofs.Numbers.{length_bytes_of}
use Rattle.octets.proofs.Places.{stored, then_stored}
use Rattle.volume.proofs.SnapshotLaws.{places}
use Rattle.snapshotbytes.proofs.Writing.{few, spell_is}
use Rattle.snapshotbytes.proofs.snapshot_write.Goals as goal

pub overflow_cast-snapshot : goal.overflow_cast-snapshot
overflow_cast-snapshot c =
    let x = c.args.snapshot in
    let l : length x.path ≡ 8 = places x _ c.well_formed.1.1.0 in
    omega (arith, few x l c.requires.1)

pub returns : goal.returns
returns c = let a = c.args in
    let x = a.snapshot in
    let l : length x.path ≡ 8 = places x _ c.well_formed.1.1.0 in
    let one = stored a.at 1 _ a.s.now (length_bytes_of 1 0) c.store8.ensures in
    let two = then_stored one 4 _ (length_bytes_of 4 x.count.0) (omega arith) c.store32.ensures in
    let three = then_stored two 1 _ (length_bytes_of 1 x.len) (omega arith) c.store8-2.ensures in
    let four = then_stored three 256 _ c.path_write.ensures.path_len (omega arith) c.path_write.ensures.s_after in
    let e = spell_is x l c.requires.1 in record { s_after = four.bytes ∙ ap (λ l. put a.at l a.s.now) e; snapshot_len = sym (ap length e) ∙ four.long }
