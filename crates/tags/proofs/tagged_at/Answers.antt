-- Row i is within the table, and the volume is the one that it spells.
use Rattle.std.proofs.Common.{◌+◌, ◌*◌, ◌≤◌, length, sym, refl, ap, ◌∙◌, arith}
use mathlib.Core.Option.{some, map}
use Rattle.rules.specs.Records.{Tag}
use Rattle.rows.proofs.Finds.{row_nth}
use Rattle.rows.proofs.Checks.{row_in}
use Rattle.rows.proofs.Tables.{tags}
use Rattle.tags.proofs.RowLaws.{vid_read}
use Rattle.tags.proofs.tagged_at.Goals as goal

pub overflow_mul-i : goal.overflow_mul-i
overflow_mul-i c =
    let inside : 2 + c.args.i * 50 + 50 ≤ length c.args.t.now = row_in tags c.args.t.now c.requires.0 c.args.i c.requires.1 in
    omega (arith, inside)

pub overflow_add-i : goal.overflow_add-i
overflow_add-i c =
    let inside : 2 + c.args.i * 50 + 50 ≤ length c.args.t.now = row_in tags c.args.t.now c.requires.0 c.args.i c.requires.1 in
    omega (arith, inside)

pub overflow_add-i-2 : goal.overflow_add-i-2
overflow_add-i-2 c =
    let inside : 2 + c.args.i * 50 + 50 ≤ length c.args.t.now = row_in tags c.args.t.now c.requires.0 c.args.i c.requires.1 in
    omega (arith, inside)

pub load_id-requires : goal.load_id-requires
load_id-requires c =
    let inside : 2 + c.args.i * 50 + 50 ≤ length c.args.t.now = row_in tags c.args.t.now c.requires.0 c.args.i c.requires.1 in
    omega (arith, inside)

pub returns : goal.returns
returns c =
    ap (map (λ (g : Tag). g.vid)) (row_nth tags c.args.t.now c.args.i c.requires.1)
    ∙ ap some (vid_read c.args.t.now (2 + c.args.i * 50) _ refl ∙ sym c.load_id.ensures)
