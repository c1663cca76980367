-- The masks are those without the pages of the first j commits. Where no mask has a page, or there is no commit, nothing changes any more; a commit whose windows lie apart takes nothing.
use Rattle.std.specs.Prelude.{◌≡◌, ℕ, ◌+◌, ◌-◌, ◌*◌}
use mathlib.Core.Path.{refl, sym, ap, ◌∙◌}
use native.Mathlib.Omega.{arith}
use borrow.Author.Rules.{rules}
use Rattle.table.specs.Table.{count_of}
use Rattle.rules.specs.Write.{pages_of}
use Rattle.setbytes.specs.Laid.{windows_at}
use Rattle.setbytes.proofs.SetLaws.{length_windows}
use Rattle.masks.specs.Masks.{less_masks, no_masks}
use Rattle.commits.specs.Places.{commit_at}
use Rattle.gifts.specs.Paths.{places_in, commits_at, before}
use Rattle.gifts.specs.Held.{less_all}
use Rattle.gifts.proofs.StepLaws.{place_below}
use Rattle.gifts.proofs.HeldLaws.{less_apart, all_next, all_end, all_empty, index_at}
use Rattle.gifts.proofs.ask_all.Goals.{then-not-apart+else-none_left, else-not-apart}
use Rattle.gifts.proofs.ask_all.Goals as goal

pub loop-j-init : goal.loop-j-init
unfolding less_all
loop-j-init c = (search rules, refl)

pub returns-in_default : goal.returns-in_default
returns-in_default c =
    let l = c.loop-j in
    l.invariant.1 ∙ all_end (windows_at c.args.n c.args.at c.args.commits.now) c.args.commits.now (places_in c.args.path.runs) c.args.masks.now l.j c.args.k (sym c.at.ensures ∙ c.in_default.is) (omega arith)

pub apart-requires : goal.apart-requires
apart-requires c =
    (c.requires.commits_value.0, place_below (count_of c.args.commits.now) c.loop-j.j c.in-Some.i (places_in c.args.path.runs) c.requires.commits_value.1.below (sym c.at.ensures ∙ c.in-Some.is))

pub take_away-requires : goal.take_away-requires
take_away-requires c = record { commits_value = (c.requires.commits_value.0, place_below (count_of c.args.commits.now) c.loop-j.j c.in-Some.i (places_in c.args.path.runs) c.requires.commits_value.1.below (sym c.at.ensures ∙ c.in-Some.is)); n_in_bounds = (c.requires.n_in_bounds.0, c.requires.n_in_bounds.2, c.requires.n_in_bounds.3) }

pub none_left-requires : goal.none_left-requires
none_left-requires c = (c.requires.n_in_bounds.2, search rules)

pub returns-then-none_left : goal.returns-then-none_left
returns-then-none_left c =
    let l = c.loop-j in
    let ws = windows_at c.args.n c.args.at c.args.commits.now in
    let ps = places_in c.args.path.runs in
    let next = c.take_away.ensures ∙ ap (less_masks ws (pages_of (commit_at c.args.commits.now c.in-Some.i).segment)) l.invariant.1 ∙ sym (all_next ws c.args.commits.now ps c.args.masks.now l.j c.in-Some.i (sym c.at.ensures ∙ c.in-Some.is)) in
    let none = ap (λ (m : ℕ). no_masks m (less_all ws (before (l.j + 1) (commits_at c.args.commits.now ps)) c.args.masks.now)) (length_windows c.args.n c.args.at c.args.commits.now) ∙ ap (no_masks c.args.n) (sym next) ∙ sym c.none_left.ensures ∙ c.if-none_left.true in
    next ∙ all_empty ws c.args.commits.now ps c.args.masks.now (l.j + 1) c.args.k none (omega arith)

pub loop-j-preserved : goal.loop-j-preserved
loop-j-preserved c =
    let l = c.loop-j in
    let t = c.args.commits.now in
    let ws = windows_at c.args.n c.args.at t in
    let ps = places_in c.args.path.runs in
    let k = length_windows c.args.n c.args.at t in
    let m : ℕ = c.args.n - 1 in
    let u = pages_of (commit_at t c.in-Some.i).segment in
    let next = ap (less_masks ws u) l.invariant.1 ∙ sym (all_next ws t ps c.args.masks.now l.j c.in-Some.i (sym c.at.ensures ∙ c.in-Some.is)) in
    elim c.if-not-apart.branch [
      | then-not-apart+else-none_left w ↦ rw w.masks-is (search rules, w.take_away.ensures ∙ next)
      | else-not-apart w ↦
          let kept = less_apart ws u l.masks m c.load32-lo.result c.load32-hi.result c.requires.n_in_bounds.3 (omega (arith, l.invariant.0)) (omega arith)
          (c.load32-lo.ensures ∙ sym (index_at c.args.n c.args.at t 0 c.args.at (omega arith) (omega arith)))
          (c.load32-hi.ensures ∙ sym (index_at c.args.n c.args.at t m (c.args.at + m * 12) (omega arith) refl)) (c.apart.ensures w.if-not-apart.false) in
          rw w.masks-is (l.invariant.0, sym kept ∙ next)
    ]

pub returns : goal.returns
returns c =
    let l = c.loop-j in
    let e : l.j ≡ c.args.k = omega arith in
    l.invariant.1 ∙ ap (λ (m : ℕ). less_all (windows_at c.args.n c.args.at c.args.commits.now) (before m (commits_at c.args.commits.now (places_in c.args.path.runs))) c.args.masks.now) e
