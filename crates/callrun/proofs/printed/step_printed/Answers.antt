-- The step, its line, and the newline behind it; the line has at most 83 bytes.
use Rattle.std.proofs.Common.{arith}
use Rattle.calltext.specs.Says.{head_says}
use Rattle.callrun.proofs.Newline.{line_short, wide, with_newline}
use Rattle.callrun.proofs.printed.step_printed.Goals as goal

pub store8-requires : goal.store8-requires
store8-requires c = let a = c.args in omega (arith, (wide a.out.now _ c.write_line-n.result _ c.requires.1 c.write_line-n.ensures.out_after c.write_line-n.ensures.value).1, line_short a.number c.step-p.result.code (head_says c.step-p.result.head), c.requires.1, c.write_line-n.auto.out)

pub overflow_add-result : goal.overflow_add-result
overflow_add-result c = let a = c.args in omega (arith, (wide a.out.now _ c.write_line-n.result _ c.requires.1 c.write_line-n.ensures.out_after c.write_line-n.ensures.value).1, line_short a.number c.step-p.result.code (head_says c.step-p.result.head))

pub returns : goal.returns
returns c = let a = c.args in let w = with_newline a.out.now _ _ c.write_line-n.result _ c.requires.1 (line_short a.number c.step-p.result.code (head_says c.step-p.result.head)) (wide a.out.now _ c.write_line-n.result _ c.requires.1 c.write_line-n.ensures.out_after c.write_line-n.ensures.value) c.store8.ensures in record { code = c.step-p.result.code; head = head_says c.step-p.result.head; steps = c.step-p.ensures; bytes = w.0; long = w.1 }
