-- The commits of a range are one run of rows, copied whole. Assumes nothing.
use Rattle.std.proofs.Common.{ℕ, ◌*◌, List, ap, ◌∙◌, arith}
use Rattle.octets.specs.Bytes.{put}
use Rattle.volume.specs.Snapshots.{range_says}
use Rattle.listcalls.proofs.RangeLaws.{run_number, run_bytes, run_inside}
use Rattle.listcalls.proofs.put_range.Goals as goal

pub overflow_mul-from : goal.overflow_mul-from
overflow_mul-from c =
    let h = run_inside c.args.commits.now c.requires.0 (range_says c.args.range) c.places_of-run.result.from c.places_of-run.result.to c.places_of-run.ensures in
    omega arith

pub overflow_add-from : goal.overflow_add-from
overflow_add-from c =
    let h = run_inside c.args.commits.now c.requires.0 (range_says c.args.range) c.places_of-run.result.from c.places_of-run.result.to c.places_of-run.ensures in
    omega arith

pub overflow_mul-n : goal.overflow_mul-n
overflow_mul-n c =
    let h = run_inside c.args.commits.now c.requires.0 (range_says c.args.range) c.places_of-run.result.from c.places_of-run.result.to c.places_of-run.ensures in
    omega arith

pub copy-requires : goal.copy-requires
copy-requires c =
    let h = run_inside c.args.commits.now c.requires.0 (range_says c.args.range) c.places_of-run.result.from c.places_of-run.result.to c.places_of-run.ensures in
    let n = run_number c.args.commits.now c.requires.0 (range_says c.args.range) c.places_of-run.result.from c.places_of-run.result.to c.places_of-run.ensures in
    (omega arith, omega arith)

pub overflow_add-result : goal.overflow_add-result
overflow_add-result c =
    let n = run_number c.args.commits.now c.requires.0 (range_says c.args.range) c.places_of-run.result.from c.places_of-run.result.to c.places_of-run.ensures in
    omega arith

pub returns : goal.returns
returns c =
    let n = run_number c.args.commits.now c.requires.0 (range_says c.args.range) c.places_of-run.result.from c.places_of-run.result.to c.places_of-run.ensures in
    let b = run_bytes c.args.commits.now c.requires.0 (range_says c.args.range) c.places_of-run.result.from c.places_of-run.result.to c.places_of-run.ensures in
    (omega arith, c.copy.ensures ∙ ap (λ (x : List ℕ). put (c.args.k * 722) x c.args.list.now) b)
