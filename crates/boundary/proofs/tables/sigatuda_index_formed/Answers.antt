-- The check of the table, then its reply.
use Rattle.std.proofs.Common.{ap, ◌∙◌}
use Rattle.boundary.specs.Tables.{formed_reply}
use Rattle.boundary.proofs.tables.sigatuda_index_formed.Goals as goal

pub returns : goal.returns
returns c = c.formed_reply.ensures ∙ ap formed_reply c.index_formed.ensures
