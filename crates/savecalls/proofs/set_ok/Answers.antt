-- Of a slice of a set's size, the form decides.
use Rattle.std.proofs.Common.{◌∙◌}
use Rattle.savecalls.proofs.Forms.{set_short, set_whole}
use Rattle.savecalls.proofs.set_ok.Goals as goal

pub returns-then-b-ne-SET : goal.returns-then-b-ne-SET
returns-then-b-ne-SET c = set_short c.args.b.now c.if-b-ne-SET.true

pub returns : goal.returns
returns c = c.set_form.ensures ∙ set_whole c.args.b.now c.if-b-ne-SET.false
