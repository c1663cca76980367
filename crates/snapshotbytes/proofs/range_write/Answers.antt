-- The fields of a range, one after another.
use borrow.Author.Rules.{rules}
use Rattle.std.specs.Prelude.{◌≡◌, length}
use mathlib.Core.Path.{ap, ◌∙◌}
use native.Mathlib.Omega.{arith}
use Rattle.octets.specs.Bytes.{put}
use Rattle.octets.proofs.Numbers.{length_bytes_of}
use Rattle.octets.proofs.Places.{stored, then_stored}
use Rattle.snapshotbytes.proofs.Writing.{range_is}
use Rattle.snapshotbytes.proofs.range_write.Goals as goal

pub returns : goal.returns
returns c = let a = c.args in
    let n : length a.range.log ≡ 16 = search rules in
    let one = stored a.at 16 a.range.log a.s.now n c.store_id.ensures in
    let two = then_stored one 8 _ (length_bytes_of 8 a.range.start.0) (omega arith) c.store64.ensures in
    let three = then_stored two 8 _ (length_bytes_of 8 a.range.end.0) (omega arith) c.store64-2.ensures in record { s_after = three.bytes ∙ ap (λ l. put a.at l a.s.now) (range_is a.range); log_len = n }
