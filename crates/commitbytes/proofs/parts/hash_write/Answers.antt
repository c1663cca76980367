-- The flag and the hash stand side by side; a hash that is missing is zeros. Assumes nothing.
use Rattle.std.proofs.Common.{◌≡◌, ℕ, length, ap, ◌∙◌, arith, rules}
use Rattle.octets.specs.Bytes.{bytes_of, put}
use Rattle.layout.specs.Records.{hash_bytes}
use Rattle.commitbytes.proofs.PartLaws.{given_stored, hash_zero}
use Rattle.commitbytes.proofs.parts.hash_write.Goals as goal

pub returns : goal.returns
returns c =
    let long : length c.args.hash ≡ 32 = search rules in
    given_stored hash_bytes c.args.at c.args.has c.args.hash c.args.s.now _ _ (long) (hash_zero c.args.has c.args.hash c.requires.hash_value) (omega arith)
    (c.store8.ensures ∙ ap (λ (n : ℕ). put c.args.at (bytes_of 1 n) c.args.s.now) c.flag-f.ensures) c.store_hash.ensures
