-- No mark is set, and no place has a page.
use Rattle.notes.proofs.NoteLaws.{known_none}
use Rattle.notes.proofs.Notes.new.Goals as goal

pub returns : goal.returns
returns c = known_none
