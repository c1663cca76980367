-- The identifier of a segment that is there is compared byte by byte; a segment starts with it. Assumes nothing.
use Rattle.std.proofs.Common.{◌≡◌, ℕ, ◌+◌, List, length, sym, ap, ◌∙◌, rules}
use Rattle.octets.specs.Bytes.{part}
use Rattle.octets.specs.Order.{lex, is_equal}
use Rattle.octets.proofs.Places.{part_whole}
use Rattle.rules.specs.Records.{Segment}
use Rattle.rules.specs.Save.{has_sid}
use Rattle.rules.specs.Tables.{same_id}
use Rattle.segmentbytes.proofs.SegmentLaws.{segment_at}
use Rattle.rules.proofs.Facts.{id_is}
use Rattle.commitbytes.proofs.CommitLaws.{segment_none, segment_there}
use Rattle.commitbytes.proofs.fields.commit_sid_is.Goals as goal

pub returns-then-load8-eq0 : goal.returns-then-load8-eq0
returns-then-load8-eq0 c =
    let a = c.args in
    sym (ap (has_sid a.sid) (segment_none a.s.now a.at (sym c.load8.ensures ∙ c.if-load8-eq0.true)))

pub returns : goal.returns
returns c =
    let whole : part 0 16 c.args.sid ≡ c.args.sid = let l : length c.args.sid ≡ 16 = search rules in part_whole 16 c.args.sid l in
    let a = c.args in
    c.same.ensures
    ∙ ap (λ (h : List ℕ). is_equal (lex h (part (a.at + 63) 16 a.s.now))) (whole)
    ∙ id_is a.sid (part (a.at + 63) 16 a.s.now)
    ∙ sym (ap (λ (x : Segment). same_id a.sid x.sid) (segment_at a.s.now (a.at + 63)))
    ∙ sym (ap (has_sid a.sid) (segment_there a.s.now a.at (λ e. c.if-load8-eq0.false (c.load8.ensures ∙ e))))
