-- The rule read at a segment that is not in form, and at one that is. Assumes nothing.
use Rattle.std.proofs.Common.{◌≡◌, ◌≤◌, true, length, sym, refl, ◌∙◌, arith, Ok, Err}
use Rattle.basics.specs.declared.refusal.Refusal.TheVariants as Refusal
use Rattle.commit.proofs.RecordLaws.{long_of}
use Rattle.frames.specs.Rules.{frames_ok}
use Rattle.frames.proofs.PlaceLaws.{ok_few}
use Rattle.frames.proofs.ListLaws.{parts_long, lists_bad, lists_all}
use Rattle.frames.proofs.frame_list.Goals as goal

pub returns-then-not-frames_ok : goal.returns-then-not-frames_ok
returns-then-not-frames_ok c = lists_bad c.args.s (Err Refusal.Form) (sym c.frames_ok.ensures ∙ c.if-not-frames_ok.true) refl

pub all_frames-frames-requires : goal.all_frames-frames-requires
all_frames-frames-requires c = sym c.frames_ok.ensures ∙ c.if-not-frames_ok.false

pub returns : goal.returns
returns c =
    let long : frames_ok c.args.s ≡ true → c.args.s.len ≤ length c.args.s.frames = λ e. omega (arith, long_of c.args.s _ c.well_formed.0, ok_few c.args.s e) in
    let e = sym c.frames_ok.ensures ∙ c.if-not-frames_ok.false in
    lists_all c.args.s (Ok (record { len = c.args.s.len; frames = c.all_frames-frames.result })) e (sym (parts_long c.args.s (long e)), c.all_frames-frames.ensures)
