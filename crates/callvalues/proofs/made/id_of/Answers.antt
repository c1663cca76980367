-- The last byte set over zeros.
use Rattle.std.proofs.Common.{refl}
use Rattle.callvalues.specs.Values.{id_of}
use Rattle.callvalues.proofs.made.id_of.Goals as goal

pub returns : goal.returns
unfolding id_of
returns c = refl
