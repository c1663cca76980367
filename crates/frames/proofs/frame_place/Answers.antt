-- The rule read at page 0, at a segment that is not in form, and at the place that was found. Assumes nothing.
use Rattle.std.proofs.Common.{sym, ap, ◌∙◌, arith}
use Rattle.frames.specs.Places.{place_says}
use Rattle.frames.proofs.PlaceLaws.{bytes_zero, bytes_bad, bytes_place}
use Rattle.frames.proofs.frame_place.Goals as goal

pub returns-then-page-eq0 : goal.returns-then-page-eq0
returns-then-page-eq0 c = record { says = bytes_zero c.args.s c.args.page.0 c.args.lent c.if-page-eq0.true; within = tt }

pub returns-then-not-frames_ok : goal.returns-then-not-frames_ok
returns-then-not-frames_ok c = record { says = bytes_bad c.args.s c.args.page.0 c.args.lent (omega arith) (sym c.frames_ok.ensures ∙ c.if-not-frames_ok.true); within = tt }

pub locate-requires : goal.locate-requires
locate-requires c = sym c.frames_ok.ensures ∙ c.if-not-frames_ok.false

pub in_lent-requires : goal.in_lent-requires
in_lent-requires c = let h = rw c.in-Some.is at c.locate.ensures.placed in h.0

pub returns-in-Some : goal.returns-in-Some
returns-in-Some c = record {
  says = c.in_lent.ensures.says
      ∙ bytes_place c.args.s c.args.page.0 c.args.lent _ (omega arith) (sym c.frames_ok.ensures ∙ c.if-not-frames_ok.false)
      (ap (place_says c.args.s) (sym c.in-Some.is) ∙ c.locate.ensures.says);
  within = (c.in_lent.ensures.within);
}

pub returns-in-None : goal.returns-in-None
returns-in-None c = record {
  says = bytes_place c.args.s c.args.page.0 c.args.lent _ (omega arith) (sym c.frames_ok.ensures ∙ c.if-not-frames_ok.false)
      (ap (place_says c.args.s) (sym c.in-None.is) ∙ c.locate.ensures.says);
  within = (tt);
}
