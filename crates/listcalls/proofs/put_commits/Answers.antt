-- The invariant: the k commits of the first i ranges stand in the list, one after another. Assumes nothing.
use Rattle.std.proofs.Common.{◌≡◌, ℕ, length, refl, ap, ◌∙◌, arith, rules}
use Rattle.octets.specs.Bytes.{put}
use Rattle.octets.specs.Flat.{flat}
use Rattle.layout.specs.Records.{commit_bytes}
use Rattle.resultlists.proofs.EntryLaws.{none_listed}
use Rattle.listcalls.specs.Runs.{first_commits}
use Rattle.listcalls.proofs.PathLaws.{turn_count, turn_room, path_turn}
use Rattle.listcalls.proofs.put_commits.Goals as goal

pub loop-i-init : goal.loop-i-init
loop-i-init c = (refl, refl, none_listed commit_bytes 722 c.args.list.now)

pub offset_bounds-path-i : goal.offset_bounds-path-i
offset_bounds-path-i c = omega arith

pub bounds-path-i : goal.bounds-path-i
bounds-path-i c = omega arith

pub put_range-k-requires : goal.put_range-k-requires
put_range-k-requires c =
    let long : length c.args.path ≡ 8 = search rules in
    let size = long in
    (c.requires.0, turn_room c.args.commits.now c.args.path c.loop-i.i _ c.loop-i.k c.loop-i.invariant.0 c.args.len _ (omega arith) (omega arith) (omega arith))

pub loop-i-preserved : goal.loop-i-preserved
loop-i-preserved c =
    let long : length c.args.path ≡ 8 = search rules in
    let size = long in (
      c.put_range-k.ensures.0 ∙ turn_count c.args.commits.now c.args.path c.loop-i.i _ c.loop-i.k c.loop-i.invariant.0 (omega arith),
      search rules,
      path_turn c.args.commits.now c.requires.0 c.args.path c.loop-i.i _ (omega arith) c.args.list.now c.loop-i.list _ c.loop-i.k c.loop-i.invariant.0 (turn_room c.args.commits.now c.args.path c.loop-i.i _ c.loop-i.k c.loop-i.invariant.0 c.args.len _ (omega arith) (omega arith) c.requires.2) c.loop-i.invariant.2 c.put_range-k.ensures.1,
    )

pub returns : goal.returns
returns c =
    let e : c.loop-i.i ≡ c.args.len = omega arith in
    c.loop-i.invariant.2.bytes ∙ ap (λ (k : ℕ). put 0 (flat commit_bytes.spell (first_commits c.args.commits.now k c.args.path)) c.args.list.now) e
