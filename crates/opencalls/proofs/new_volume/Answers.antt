-- The three that stand in it are as the rule has them, and its sync point is that of the remote.
use Rattle.std.proofs.Common.{get_or, w8, Fits, rules}
use Rattle.opencalls.specs.Opens.{asked, spares}
use Rattle.layout.proofs.PlaceLaws.{id_form_lem}
use Rattle.opencalls.proofs.Ends.{new_good}
use Rattle.opencalls.proofs.new_volume.Goals as goal

pub returns : goal.returns
returns c = new_good c.args.commits.now c.requires (asked c.args.vid c.args.local c.args.remote) (spares c.args.vid c.args.local c.args.remote) _ _ _ c.sync_at-sync.result _ c.chosen-id.ensures c.chosen-here.ensures c.chosen-there.ensures c.sync_at-sync.ensures c.new.ensures (id_form_lem c.chosen-id.result (search rules) (λ j. let f : Fits w8 (get_or c.chosen-id.result j 0) = search rules in f.fits)) (id_form_lem c.chosen-here.result (search rules) (λ j. let f : Fits w8 (get_or c.chosen-here.result j 0) = search rules in f.fits)) (id_form_lem c.chosen-there.result (search rules) (λ j. let f : Fits w8 (get_or c.chosen-there.result j 0) = search rules in f.fits))
