-- The four parts of the item are stored one after another (`row_stored`).
use Rattle.rules.specs.Write.{pages_of}
use Rattle.masks.specs.Masks.{given}
use Rattle.commits.specs.Places.{commit_at}
use Rattle.walkcalls.proofs.ItemLaws.{row_stored}
use Rattle.walkcalls.proofs.put_item.Goals as goal

pub returns : goal.returns
returns c =
    let t = c.args.commits.now in
    row_stored t c.requires.commits_value.0 c.args.i c.requires.commits_value.1 c.requires.commits_value.2 (given (pages_of (commit_at t c.args.i).segment) c.args.left.now) c.requires.left_value.0 c.row-from.result c.lsn_at.result c.args.at c.args.list.now _ _ _ _ c.row-from.ensures.0 c.lsn_at.ensures c.requires.left_value.1 c.copy.ensures c.store64.ensures c.copy-2.ensures c.put_gift.ensures
