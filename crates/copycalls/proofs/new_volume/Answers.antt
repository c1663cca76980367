-- Its identifiers are in form, and nothing else stands in it.
use Rattle.std.proofs.Common.{get_or, w8, Fits, rules}
use Rattle.layout.proofs.PlaceLaws.{id_form_lem}
use Rattle.copycalls.proofs.Asks.{new_good}
use Rattle.copycalls.proofs.new_volume.Goals as goal

pub returns : goal.returns
returns c = new_good c.args.vid c.args.local c.args.remote _ c.new.ensures (id_form_lem c.args.vid (search rules) (λ j. let f : Fits w8 (get_or c.args.vid j 0) = search rules in f.fits)) (id_form_lem c.args.local (search rules) (λ j. let f : Fits w8 (get_or c.args.local j 0) = search rules in f.fits)) (id_form_lem c.args.remote (search rules) (λ j. let f : Fits w8 (get_or c.args.remote j 0) = search rules in f.fits))
