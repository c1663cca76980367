-- The rule read at each of the answers, in the order of its checks. Assumes nothing.
use Rattle.std.proofs.Common.{sym, ◌∙◌, arith}
use Rattle.ranges.proofs.JoinLaws.{tells_left, tells_right, tells_first, tells_second, tells_other, tells_after, tells_before, tells_apart}
use Rattle.ranges.proofs.join.Goals as goal

pub returns-then-left : goal.returns-then-left
returns-then-left c = tells_left c.args.left c.args.right c.if-left.true

pub returns-then-right : goal.returns-then-right
returns-then-right c = tells_right c.args.left c.args.right c.if-right.true

pub returns-then-not-is_normal : goal.returns-then-not-is_normal
returns-then-not-is_normal c = tells_first c.args.left c.args.right (omega arith) (omega arith) (sym c.is_normal.ensures ∙ c.if-not-is_normal.true)

pub returns-then-not-is_normal-2 : goal.returns-then-not-is_normal-2
returns-then-not-is_normal-2 c = tells_second c.args.left c.args.right (omega arith) (omega arith) (sym c.is_normal-2.ensures ∙ c.if-not-is_normal-2.true)

pub returns-then-not-same : goal.returns-then-not-same
returns-then-not-same c =
    tells_other c.args.left c.args.right (omega arith) (omega arith) (sym c.is_normal.ensures ∙ c.if-not-is_normal.false) (sym c.is_normal-2.ensures ∙ c.if-not-is_normal-2.false)
    (sym c.same.ensures ∙ c.if-not-same.true)

pub joined-requires : goal.joined-requires
joined-requires c = record { pages_value = sym c.is_normal.ensures ∙ c.if-not-is_normal.false; pages_value_2 = sym c.is_normal-2.ensures ∙ c.if-not-is_normal-2.false }

pub returns-then-left-right : goal.returns-then-left-right
returns-then-left-right c =
    tells_after c.args.left c.args.right (omega arith) (omega arith) (sym c.is_normal.ensures ∙ c.if-not-is_normal.false) (sym c.is_normal-2.ensures ∙ c.if-not-is_normal-2.false)
    (sym c.same.ensures ∙ c.if-not-same.false) _ c.if-left-right.true c.joined.ensures

pub joined-requires-then-right-left : goal.joined-requires-then-right-left
joined-requires-then-right-left c = record { pages_value = sym c.is_normal-2.ensures ∙ c.if-not-is_normal-2.false; pages_value_2 = sym c.is_normal.ensures ∙ c.if-not-is_normal.false }

pub returns-then-right-left : goal.returns-then-right-left
returns-then-right-left c =
    tells_before c.args.left c.args.right (omega arith) (omega arith) (sym c.is_normal.ensures ∙ c.if-not-is_normal.false) (sym c.is_normal-2.ensures ∙ c.if-not-is_normal-2.false)
    (sym c.same.ensures ∙ c.if-not-same.false) _ c.if-left-right.false c.if-right-left.true c.joined-then-right-left.ensures

pub returns : goal.returns
returns c =
    tells_apart c.args.left c.args.right (omega arith) (omega arith) (sym c.is_normal.ensures ∙ c.if-not-is_normal.false) (sym c.is_normal-2.ensures ∙ c.if-not-is_normal-2.false)
    (sym c.same.ensures ∙ c.if-not-same.false) c.if-left-right.false c.if-right-left.false
