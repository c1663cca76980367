-- So many windows are sorted, and noted (`Sorting`). A turn sorts the next window by what the notes tell of it.
use Rattle.std.specs.Prelude.{ℕ, ◌+◌, ◌*◌, ◌^◌, ◌<◌, ◌≤◌, length}
use mathlib.Core.Path.{sym, ap₂, ◌∙◌, subst}
use native.Mathlib.Omega.{arith}
use borrow.Author.Rules.{rules}
use Rattle.rules.proofs.PageLaws.{form_rising}
use Rattle.setbytes.specs.Laid.{windows_at}
use Rattle.setbytes.proofs.SetLaws.{length_windows, window_nth}
use Rattle.setbytes.proofs.WindowLaws.{window_at}
use Rattle.notes.specs.Known.{AsNoted}
use Rattle.gifts.proofs.SortLaws.{sorting_start, sorting_known, sorting_asked, sorting_end}
use Rattle.gifts.proofs.sort_out.Goals.{in-Some, in-None}
use Rattle.gifts.proofs.sort_out.Goals as goal

pub loop-i-init : goal.loop-i-init
loop-i-init c = sorting_start (windows_at c.args.n c.args.at c.args.commits.now) c.args.count.0 c.args.notes.now c.args.left.now c.args.ask.now (search rules, search rules)

pub loop-i-preserved : goal.loop-i-preserved
loop-i-preserved c =
    let l = c.loop-i in
    let t = c.args.commits.now in
    let at = c.args.at + l.i * 12 in
    let ws = windows_at c.args.n c.args.at t in
    let e = sym (window_nth c.args.n c.args.at t l.i (omega arith) ∙ window_at at t ∙ ap₂ (λ (x y : ℕ). record { index = x; mask = y }) (sym c.load32-index.ensures) (sym c.load64-mask.ensures)) in
    let n = length_windows c.args.n c.args.at t in
    let up = form_rising ws c.requires.2 in
    let i : l.i < length ws = omega arith in
    let few : length ws ≤ 32 = omega arith in
    let v : c.kept-pages.result < 2 ^ 64 = search rules in
    elim c.match-note.branch [
      | in-Some w ↦
          let noted = subst (AsNoted c.load32-index.result c.load64-mask.result l.notes c.note.new.self) w.in-Some.is c.note.ensures in
          rw (w.left-is, w.ask-is) (sorting_known ws c.args.count.0 c.args.notes.now l.notes l.left l.ask l.i l.invariant up i few _ _ _ e c.kept-pages.ensures v _ _ (search rules) noted)
      | in-None w ↦
          let noted = subst (AsNoted c.load32-index.result c.load64-mask.result l.notes c.note.new.self) w.in-None.is c.note.ensures in
          rw (w.left-is, w.ask-is) (sorting_asked ws c.args.count.0 c.args.notes.now l.notes l.left l.ask l.i l.invariant up i few _ _ _ e c.kept-pages.ensures v _ noted)
    ]

pub returns : goal.returns
returns c = let l = c.loop-i in
    let n = length_windows c.args.n c.args.at c.args.commits.now in
    let whole = sorting_end (windows_at c.args.n c.args.at c.args.commits.now) c.args.count.0 c.args.notes.now l.notes l.left l.ask l.i l.invariant (omega arith) in
    record { as_sorted = whole.0; small = whole.1 }
