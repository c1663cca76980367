-- Every window has a mark, and no page lies in the windows of the places.
use Rattle.notes.proofs.NoteLaws.{known_nothing}
use Rattle.notes.proofs.Notes.unknowing.Goals as goal

pub returns : goal.returns
returns c = known_nothing
