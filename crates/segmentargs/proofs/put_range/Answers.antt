-- The tests are those of the definition, in its order; a range whose set is in normal form fills the lent slice. Assumes nothing.
use Rattle.std.proofs.Common.{◌≡◌, ℕ, List, length, sym, ap, ◌∙◌, rules, Option as Maybe, Some, None, Result, Ok}
use Rattle.octets.proofs.Places.{put_all}
use Rattle.basics.specs.declared.refusal.Refusal.{Refusal}
use Rattle.commit.specs.declared.SegmentRange.{SegmentRange}
use Rattle.commit.specs.Says.{answer_says}
use Rattle.segmentbytes.proofs.Trips.{range_laid_lem}
use Rattle.arguments.specs.declared.Reply.{Reply}
use Rattle.arguments.specs.Replies.{none_under, given}
use Rattle.arguments.specs.Sets.{early}
use Rattle.segmentargs.specs.Segments.{range_bytes}
use Rattle.segmentargs.proofs.SegmentLaws.{range_long, put_early, put_short, put_shown}
use Rattle.segmentargs.proofs.put_range.Goals as goal

pub returns-then-is_early : goal.returns-then-is_early
returns-then-is_early c =
    ap (λ (n : ℕ). (none_under n, c.args.out.now)) c.number-code.ensures
    ∙ put_early _ _ (ap early (sym c.number-code.ensures) ∙ sym c.is_early.ensures ∙ c.if-is_early.true)

pub returns-then-out-ne-RANGE : goal.returns-then-out-ne-RANGE
returns-then-out-ne-RANGE c = put_short _ _ (ap early (sym c.number-code.ensures) ∙ sym c.is_early.ensures ∙ c.if-is_early.false) c.if-out-ne-RANGE.true

pub range_write-requires : goal.range_write-requires
range_write-requires c =
    let f : c.in-Ok-Some.field-0 ≡ Some c.in-Ok-Some.range = rw c.in-Ok-Some.is at c.in-Ok-Some.field-0-is in
    let h = rw (c.in-Ok-Some.is, f) at c.requires in
    record { at_in_bounds = search rules; x_value = range_laid_lem c.in-Ok-Some.range h }

pub returns-in-Err : goal.returns-in-Err
returns-in-Err c =
    let p = ap early (sym c.number-code.ensures) ∙ sym c.is_early.ensures ∙ c.if-is_early.false in
    ap (λ (r : Reply). (r, c.args.out.now)) c.refused.ensures
    ∙ ap (λ (r : Result (Maybe SegmentRange) Refusal). range_bytes c.args.out.now (answer_says r)) (sym c.in-Err.is)
    ∙ put_shown _ _ p c.if-out-ne-RANGE.false

pub returns-in-Ok-None : goal.returns-in-Ok-None
returns-in-Ok-None c =
    let p = ap early (sym c.number-code.ensures) ∙ sym c.is_early.ensures ∙ c.if-is_early.false in
    let f : c.in-Ok-None.field-0 ≡ None = rw c.in-Ok-None.is at c.in-Ok-None.field-0-is in
    let e : c.args.a ≡ Ok None = c.in-Ok-None.is ∙ ap (λ (o : Maybe SegmentRange). Ok o) f in
    ap (λ (r : Result (Maybe SegmentRange) Refusal). range_bytes c.args.out.now (answer_says r)) (sym e)
    ∙ put_shown _ _ p c.if-out-ne-RANGE.false

pub returns-in-Ok-Some : goal.returns-in-Ok-Some
returns-in-Ok-Some c =
    let f : c.in-Ok-Some.field-0 ≡ Some c.in-Ok-Some.range = rw c.in-Ok-Some.is at c.in-Ok-Some.field-0-is in
    let h = rw (c.in-Ok-Some.is, f) at c.requires in
    let p = ap early (sym c.number-code.ensures) ∙ sym c.is_early.ensures ∙ c.if-is_early.false in
    let l : length c.in-Ok-Some.range.sid ≡ 16 = search rules in
    let e : c.args.a ≡ Ok (Some c.in-Ok-Some.range) = c.in-Ok-Some.is ∙ ap (λ (o : Maybe SegmentRange). Ok o) f in
    ap (λ (b : List ℕ). (given, b)) (c.range_write.ensures ∙ put_all _ _ (range_long c.in-Ok-Some.range l h ∙ sym c.if-out-ne-RANGE.false))
    ∙ ap (λ (r : Result (Maybe SegmentRange) Refusal). range_bytes c.args.out.now (answer_says r)) (sym e)
    ∙ put_shown _ _ p c.if-out-ne-RANGE.false
