-- Row by row. The invariant: the commits from i on decide (`Left`).
use Rattle.std.proofs.Common.{sym, ◌∙◌, arith}
use Rattle.table.proofs.Checks.{well_two}
use Rattle.rows.proofs.Rows.{formed_well}
use Rattle.rows.proofs.Tables.{commits}
use Rattle.saves.proofs.Asks.{left_start, named, left_next, left_none}
use Rattle.saves.proofs.any_commit.Goals as goal

pub count-i-end-requires : goal.count-i-end-requires
count-i-end-requires c = well_two 722 25 c.args.commits.now (formed_well commits c.args.commits.now c.requires)

pub loop-i-init : goal.loop-i-init
loop-i-init c = left_start c.args.commits.now c.args.sid

pub sid_is-requires : goal.sid_is-requires
sid_is-requires c = (c.requires, omega (arith, c.loop-i-test.true, c.count-i-end.ensures.0))

pub returns-then-sid_is : goal.returns-then-sid_is
returns-then-sid_is c = named c.args.commits.now c.args.sid c.loop-i.i (omega (arith, c.loop-i-test.true, c.count-i-end.ensures.0)) c.loop-i.invariant (sym c.if-sid_is.true ∙ c.sid_is.ensures)

pub loop-i-preserved : goal.loop-i-preserved
loop-i-preserved c = left_next c.args.commits.now c.args.sid c.loop-i.i (omega (arith, c.loop-i-test.true, c.count-i-end.ensures.0)) c.loop-i.invariant (sym c.if-sid_is.false ∙ c.sid_is.ensures)

pub returns : goal.returns
returns c = left_none c.args.commits.now c.args.sid c.loop-i.i (omega (arith, c.loop-i-test.false, c.count-i-end.ensures.0)) c.loop-i.invariant
