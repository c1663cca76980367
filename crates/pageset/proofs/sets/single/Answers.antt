-- The set is that of the range from the page to itself, made in one turn. Assumes nothing.
use Rattle.std.proofs.Common.{◌/◌, arith}
use Rattle.pageset.specs.Rules.{within}
use Rattle.pageset.proofs.RangeLaws.{range_start, range_push, range_members, range_normal, only_page}
use Rattle.pageset.proofs.ResultLaws.{is_set, set_same}
use Rattle.pageset.proofs.sets.single.Goals as goal

pub returns : goal.returns
returns c =
    let p = c.args.p.0 in
    let w = range_push p p c.requires (p / 64) _ (range_start p p c.requires) (omega arith) (omega arith) c.span_mask.result c.span_mask.ensures in
    rw (c.push.ensures, c.empty-set.ensures) (set_same (within p p) _ _ (only_page p) (is_set (within p p) _ (range_normal p p c.requires _ _ w (omega arith)) (range_members p p c.requires _ _ w (omega arith))))
