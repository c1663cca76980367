-- The ways out are the tests of the law `tag_asked` in turn: the reserved byte, the length, and what is past the name.
use Rattle.std.proofs.Common.{refl}
use Rattle.tags.proofs.FormLaws.{not_reserved, no_name, long_name, past_name}
use Rattle.tags.proofs.tag_form.Goals as goal

pub returns-then-load8-ne0 : goal.returns-then-load8-ne0
returns-then-load8-ne0 c =
    not_reserved c.args.s.now (λ j. (c.type_inv.s j).fits) c.args.at c.requires _ refl _ c.load8.ensures c.if-load8-ne0.true

pub returns-then-n-eq0 : goal.returns-then-n-eq0
returns-then-n-eq0 c =
    no_name c.args.s.now (λ j. (c.type_inv.s j).fits) c.args.at c.requires _ c.length_at-n.ensures _ c.load8.ensures c.if-load8-ne0.false c.if-n-eq0.true

pub returns-then-n-gt32 : goal.returns-then-n-gt32
returns-then-n-gt32 c =
    long_name c.args.s.now (λ j. (c.type_inv.s j).fits) c.args.at c.requires _ c.length_at-n.ensures _ c.load8.ensures c.if-load8-ne0.false c.if-n-gt32.true

pub returns : goal.returns
returns c =
    past_name c.args.s.now (λ j. (c.type_inv.s j).fits) c.args.at c.requires _ c.length_at-n.ensures _ c.load8.ensures c.if-load8-ne0.false _ c.if-n-eq0.false c.if-n-gt32.false c.all_zero.ensures
