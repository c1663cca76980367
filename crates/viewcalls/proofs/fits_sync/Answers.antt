-- The sync point by its two cases.
use Rattle.viewcalls.proofs.CheckLaws.{without_sync, with_sync}
use Rattle.viewcalls.proofs.fits_sync.Goals as goal

pub returns-in-None : goal.returns-in-None
returns-in-None c = without_sync c.args.found c.args.sync c.in-None.is

pub returns-in-Some : goal.returns-in-Some
returns-in-Some c = with_sync c.args.found c.args.sync _ c.in-Some.is
