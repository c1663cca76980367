-- The rule read at page 0, at a segment that is not in form, and at the place that was found. Assumes nothing.
use Rattle.std.proofs.Common.{sym, refl, ap, ◌∙◌, arith}
use Rattle.commit.proofs.RecordLaws.{tells_found}
use Rattle.frames.specs.Places.{place_says}
use Rattle.frames.proofs.PlaceLaws.{rule_zero, rule_bad, rule_place, ok_normal}
use Rattle.frames.proofs.frame_for.Goals as goal

pub returns-then-page-eq0 : goal.returns-then-page-eq0
returns-then-page-eq0 c = record { says = rule_zero c.args.s c.args.page.0 c.if-page-eq0.true; form = refl }

pub returns-then-not-frames_ok : goal.returns-then-not-frames_ok
returns-then-not-frames_ok c = record { says = rule_bad c.args.s c.args.page.0 (omega arith) (sym c.frames_ok.ensures ∙ c.if-not-frames_ok.true); form = refl }

pub locate-requires : goal.locate-requires
locate-requires c = sym c.frames_ok.ensures ∙ c.if-not-frames_ok.false

pub frame_at-requires : goal.frame_at-requires
frame_at-requires c = let h = rw c.in-Some.is at c.locate.ensures.placed in record { pages_value = ok_normal c.args.s (sym c.frames_ok.ensures ∙ c.if-not-frames_ok.false); first_nonzero = h.1 }

pub returns-in-Some : goal.returns-in-Some
returns-in-Some c =
    let r = tells_found _ _ c.frame_at.ensures in
    record {
      says = r.says ∙ rule_place c.args.s c.args.page.0 _ (omega arith) (sym c.frames_ok.ensures ∙ c.if-not-frames_ok.false) (ap (place_says c.args.s) (sym c.in-Some.is) ∙ c.locate.ensures.says);
      form = r.form;
    }

pub returns-in-None : goal.returns-in-None
returns-in-None c = record {
  says = rule_place c.args.s c.args.page.0 _ (omega arith) (sym c.frames_ok.ensures ∙ c.if-not-frames_ok.false) (ap (place_says c.args.s) (sym c.in-None.is) ∙ c.locate.ensures.says);
  form = refl;
}
