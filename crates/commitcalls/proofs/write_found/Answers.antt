-- `commitcalls::write_found` meets its contract: the row of the place is the commit's bytes.
use Rattle.std.proofs.Common.{subst}
use Rattle.commits.specs.Places.{Inside}
use Rattle.commitcalls.proofs.CallLaws.{copied, nothing}
use Rattle.commitcalls.proofs.write_found.Goals as goal

pub row-requires : goal.row-requires
row-requires c = (c.requires.0, subst (Inside c.args.t.now) c.in-Some.is c.requires.1)

pub returns-in-Some : goal.returns-in-Some
returns-in-Some c =
    copied c.args.t.now c.requires.0 c.args.place c.args.out.now c.in-Some.i c.row.result _ c.in-Some.is (subst (Inside c.args.t.now) c.in-Some.is c.requires.1) c.row.ensures.0 c.requires.2 c.load_all.ensures

pub returns-in-None : goal.returns-in-None
returns-in-None c = nothing c.args.t.now c.requires.0 c.args.place c.args.out.now c.in-None.is
