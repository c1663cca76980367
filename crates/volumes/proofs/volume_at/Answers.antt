-- Row i is within the table, and the volume is what it spells.
use Rattle.std.proofs.Common.{◌+◌, ◌*◌, ◌≤◌, length, sym, ap, ◌∙◌, arith}
use mathlib.Core.Option.{some, map}
use Rattle.volumebytes.specs.Laid.{volume_laid}
use Rattle.rows.proofs.Finds.{row_nth}
use Rattle.rows.proofs.Checks.{row_in}
use Rattle.rows.proofs.Tables.{volumes}
use Rattle.volumes.proofs.volume_at.Goals as goal

pub overflow_mul-i : goal.overflow_mul-i
overflow_mul-i c =
    let inside : 2 + c.args.i * 117 + 117 ≤ length c.args.t.now = row_in volumes c.args.t.now c.requires.0 c.args.i c.requires.1 in
    omega (arith, inside)

pub overflow_add-i : goal.overflow_add-i
overflow_add-i c =
    let inside : 2 + c.args.i * 117 + 117 ≤ length c.args.t.now = row_in volumes c.args.t.now c.requires.0 c.args.i c.requires.1 in
    omega (arith, inside)

pub volume_read-requires : goal.volume_read-requires
volume_read-requires c =
    let inside : 2 + c.args.i * 117 + 117 ≤ length c.args.t.now = row_in volumes c.args.t.now c.requires.0 c.args.i c.requires.1 in
    omega (arith, inside)

pub returns : goal.returns
returns c =
    ap (map volume_laid) (row_nth volumes c.args.t.now c.args.i c.requires.1)
    ∙ ap some (sym c.volume_read.ensures)
