-- The tests are those of the definition: the length, then the form of the whole. Assumes nothing.
use Rattle.std.proofs.Common.{sym, ◌∙◌}
use Rattle.pageset.specs.Sets.{normal_form}
use Rattle.layout.specs.Values.{set_bytes}
use Rattle.setbytes.specs.Laid.{set_laid}
use Rattle.arguments.specs.Args.{not_aset}
use Rattle.arguments.proofs.ArgLaws.{arg_length, arg_bad, arg_good}
use Rattle.arguments.proofs.SetLaws.{set_size}
use Rattle.arguments.proofs.sets.set_arg.Goals as goal

pub returns-then-b-ne-SET : goal.returns-then-b-ne-SET
returns-then-b-ne-SET c = c.not_a_set.ensures ∙ arg_length set_bytes normal_form set_laid not_aset 385 set_size _ c.if-b-ne-SET.true

pub returns-then-not-set_form : goal.returns-then-not-set_form
returns-then-not-set_form c = c.not_a_set-then-not-set_form.ensures ∙ arg_bad set_bytes normal_form set_laid not_aset 385 set_size _ c.if-b-ne-SET.false (sym c.set_form.ensures ∙ c.if-not-set_form.true)

pub returns : goal.returns
returns c = c.set_read.ensures ∙ arg_good set_bytes normal_form set_laid not_aset 385 set_size _ c.if-b-ne-SET.false (sym c.set_form.ensures ∙ c.if-not-set_form.false)
