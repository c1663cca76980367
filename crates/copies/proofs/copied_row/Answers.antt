-- The stored bytes, with another key in front.
use Rattle.std.proofs.Common.{get_or, w8, Fits, rules}
use Rattle.copies.proofs.CopyRows.{copy_is}
use Rattle.copies.proofs.copied_row.Goals as goal

pub returns : goal.returns
returns c = copy_is c.args.commits.now c.requires.0 c.args.row c.requires.1 c.args.log (search rules) (λ j. let f : Fits w8 (get_or c.args.log j 0) = search rules in f.fits) c.args.lsn c.requires.2 (search rules) _ _ _ _ c.row.ensures.0 c.load_all.ensures c.log_key-key.ensures c.store_all.ensures
