-- By the local log first.
use Rattle.std.proofs.Common.{Bool, ◌||◌, sym, ap, ◌∙◌}
use Rattle.rules.proofs.Facts.{id_is}
use Rattle.rules.specs.Tables.{same_id}
use Rattle.opencalls.proofs.names.Goals as goal

pub returns-then-same_id : goal.returns-then-same_id
returns-then-same_id c = ap (λ (b : Bool). b || same_id c.args.log c.args.v.remote) (sym (sym (id_is _ _) ∙ sym c.same_id.ensures ∙ c.if-same_id.true))

pub returns : goal.returns
returns c = c.same_id-2.ensures ∙ id_is _ _ ∙ ap (λ (b : Bool). b || same_id c.args.log c.args.v.remote) (sym (sym (id_is _ _) ∙ sym c.same_id.ensures ∙ c.if-same_id.false))
