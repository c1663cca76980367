-- The first page of a set in form is not 0. Assumes nothing.
use Rattle.std.proofs.Common.{sym, ap, ◌∙◌, arith}
use Rattle.octets.specs.Bytes.{part}
use Rattle.basics.specs.Says.{maybe_page_says}
use Rattle.pageset.specs.Sets.{normal_form}
use Rattle.rules.specs.Forms.{or_one}
use Rattle.layout.specs.Values.{set_bytes}
use Rattle.layout.proofs.HoldLaws.{in_form_lem}
use Rattle.setbytes.proofs.SetLaws.{first_counts}
use Rattle.segmentbytes.proofs.before_first.Goals as goal

pub overflow_sub-result : goal.overflow_sub-result
overflow_sub-result c =
    let e = ap maybe_page_says (sym c.in-Some.is) ∙ c.set_first-first.ensures in
    let f = (in_form_lem set_bytes normal_form (part c.args.at 385 c.args.s.now) c.requires.s_value).1 in
    omega (arith, first_counts _ f _ e)

pub returns-in-Some : goal.returns-in-Some
returns-in-Some c =
    let e = ap maybe_page_says (sym c.in-Some.is) ∙ c.set_first-first.ensures in
    let f = (in_form_lem set_bytes normal_form (part c.args.at 385 c.args.s.now) c.requires.s_value).1 in
    omega (arith, first_counts _ f _ e, ap or_one e)

pub returns-in-None : goal.returns-in-None
returns-in-None c = ap or_one (ap maybe_page_says (sym c.in-None.is) ∙ c.set_first-first.ensures)
