-- The set of the span is the rules' span. Assumes nothing.
use Rattle.std.proofs.Common.{ap}
use Rattle.rules.specs.Records.{Pages}
use Rattle.frames.proofs.PlaceLaws.{span_is}
use Rattle.frames.proofs.frame_at.Goals as goal

pub returns : goal.returns
returns c =
    let e = span_is c.args.s.pages _ c.args.run.first.0 c.args.run.last.0 c.requires.pages_value c.requires.first_nonzero c.span-pages.ensures in
    record {
      says = ap (λ (ws : Pages). record { sid = c.args.s.sid; start = c.args.run.start; end = c.args.run.end; pages = ws }) e;
      normal = c.span-pages.ensures.normal;
    }
