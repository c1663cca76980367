-- The invariant: the whole path answers what its ranges from i on answer.
use Rattle.std.proofs.Common.{◌≡◌, ◌<◌, length, sym, refl, ap, ◌∙◌, arith, rules}
use Rattle.layout.specs.Tables.{commits_in, index_in}
use Rattle.volume.specs.Volumes.{maybe_lsn_says}
use Rattle.searchcalls.proofs.PathLaws.{decides, goes_on, none_left}
use Rattle.searchcalls.proofs.search_path.Goals as goal

pub loop-i-init : goal.loop-i-init
loop-i-init c = refl

pub returns-in-Some : goal.returns-in-Some
returns-in-Some c =
    let l : length c.args.path ≡ 8 = search rules in
    let h : c.loop-i.i < c.args.len = omega arith in
    let k : c.loop-i.i < length c.args.path = omega arith in
    decides (commits_in c.args.commits.now) (index_in c.args.index.now) c.args.page.0 c.args.path c.args.len c.loop-i.i h k _ c.args.commits.now _ _ (ap maybe_lsn_says (sym c.in-Some.is) ∙ c.entry_in.ensures) c.loop-i.invariant c.entry_commit.ensures

pub loop-i-preserved : goal.loop-i-preserved
loop-i-preserved c =
    let l : length c.args.path ≡ 8 = search rules in
    let h : c.loop-i.i < c.args.len = omega arith in
    let k : c.loop-i.i < length c.args.path = omega arith in
    c.loop-i.invariant ∙ goes_on (commits_in c.args.commits.now) (index_in c.args.index.now) c.args.page.0 c.args.path c.args.len c.loop-i.i h k _ (ap maybe_lsn_says (sym c.in_default.is) ∙ c.entry_in.ensures)

pub returns : goal.returns
returns c = record { says = none_left (commits_in c.args.commits.now) (index_in c.args.index.now) c.args.page.0 c.args.path c.args.len c.loop-i.i (omega arith) ∙ sym c.loop-i.invariant; inside = tt }
