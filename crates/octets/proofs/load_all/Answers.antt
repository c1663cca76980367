-- `octets::load_all` meets its contract: what is copied is the part.
use Rattle.octets.proofs.Places.{part_slice}
use Rattle.std.proofs.Common.{length, refl, ◌∙◌}
use Rattle.octets.proofs.load_all.Goals as goal

pub returns : goal.returns
returns c =
    let a = c.args in
    c.copy_from_slice.ensures.after ∙ part_slice a.at _ (length a.out.now) a.s.now refl
