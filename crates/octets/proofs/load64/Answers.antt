-- `octets::load64` meets its contract: the library spells a number as `be` does.
use Rattle.std.proofs.Common.{rules, arith, get_or, Fits, w8, ap, ◌∙◌}
use Rattle.std.proofs.lemmas.Nat.{be_bytes_8}
use Rattle.octets.specs.Bytes.{be}
use Rattle.octets.proofs.Numbers.{spelled}
use Rattle.octets.proofs.load64.Goals as goal

pub returns : goal.returns
returns c =
    let x = c.from_be_bytes.result in
    let s = c.load_array.result in
    let e = spelled 8 x s (omega arith) (be_bytes_8 s x (search rules) (λ j. let f : Fits w8 (get_or s j 0) = search rules in f.fits) c.from_be_bytes.ensures) in
    e ∙ ap be c.load_array.ensures
