-- Without a segment there is no gift. Else the windows that stand at the set's place are the pages of the record; they are sorted by the notes, and where some are to be asked for, the earlier commits are asked.
use Rattle.std.specs.Prelude.{◌≡◌, ◌+◌}
use mathlib.Core.Path.{sym, ap, ◌∙◌}
use native.Mathlib.Omega.{arith}
use Rattle.pageset.specs.Sets.{normal_form}
use Rattle.rules.specs.Write.{pages_of}
use Rattle.rules.proofs.PageLaws.{form_rising}
use Rattle.setbytes.specs.Laid.{windows_at}
use Rattle.setbytes.proofs.SetLaws.{length_windows}
use Rattle.commits.specs.Places.{commit_at}
use Rattle.gifts.specs.Paths.{places_in, commits_at, before}
use Rattle.gifts.proofs.SetLaws.{row_normal}
use Rattle.gifts.proofs.ApartLaws.{stand}
use Rattle.gifts.proofs.GiftLaws.{made_none, made_known, made_asked, none_masked}
use borrow.Author.Rules.{rules}
use Rattle.gifts.proofs.make_gift.Goals as goal

pub returns-then-not-has_segment_at : goal.returns-then-not-has_segment_at
returns-then-not-has_segment_at c = let t = c.args.commits.now in
    let whole = made_none c.args.count.0 (before c.args.k (commits_at t (places_in c.args.path.runs))) (commit_at t c.args.i) (row_normal t c.requires.commits_value.0 c.args.i c.requires.commits_value.2) (sym c.has_segment_at.ensures ∙ c.if-not-has_segment_at.true) c.args.left.now c.args.notes.now (search rules) c.requires.known in
    record { value = whole.0; left_after = whole.1.0; known_2 = whole.1.1 }

pub sort_out-requires : goal.sort_out-requires
sort_out-requires c = let t = c.args.commits.now in
    let has = sym c.has_segment_at.ensures ∙ c.if-not-has_segment_at.false in
    let r = c.row-at in
    let n = c.count_read-n in
    let us = windows_at n.result (r.result + 79 + 1) t in
    let q : pages_of (commit_at t c.args.i).segment ≡ us = stand t c.requires.commits_value.0 c.args.i c.requires.commits_value.2 r.result r.ensures.0 r.ensures.1 has n.result n.ensures 0 0 in
    let nf = row_normal t c.requires.commits_value.0 c.args.i c.requires.commits_value.2 in
    let many = length_windows n.result (r.result + 79 + 1) t in (omega arith, omega arith, ap normal_form (sym q) ∙ nf)

pub returns-then-none_left : goal.returns-then-none_left
returns-then-none_left c = let t = c.args.commits.now in
    let has = sym c.has_segment_at.ensures ∙ c.if-not-has_segment_at.false in
    let r = c.row-at in
    let n = c.count_read-n in
    let us = windows_at n.result (r.result + 79 + 1) t in
    let q : pages_of (commit_at t c.args.i).segment ≡ us = stand t c.requires.commits_value.0 c.args.i c.requires.commits_value.2 r.result r.ensures.0 r.ensures.1 has n.result n.ensures 0 0 in
    let nf = row_normal t c.requires.commits_value.0 c.args.i c.requires.commits_value.2 in
    let many = length_windows n.result (r.result + 79 + 1) t in
    let whole = made_known c.args.count.0 (before c.args.k (commits_at t (places_in c.args.path.runs))) (commit_at t c.args.i) nf us q n.result many c.args.notes.now _ _ _ (search rules) (search rules) c.sort_out.ensures.as_sorted c.sort_out.ensures.small.0 c.sort_out.ensures.small.1 c.requires.known (sym c.none_left.ensures ∙ c.if-none_left.true) c.none_left-then-none_left.result c.none_left-then-none_left.ensures in
    record { value = whole.0; left_after = whole.1.0; known_2 = whole.1.1 }

pub ask_rest-requires : goal.ask_rest-requires
ask_rest-requires c = let t = c.args.commits.now in
    let has = sym c.has_segment_at.ensures ∙ c.if-not-has_segment_at.false in
    let r = c.row-at in
    let n = c.count_read-n in
    let us = windows_at n.result (r.result + 79 + 1) t in
    let q : pages_of (commit_at t c.args.i).segment ≡ us = stand t c.requires.commits_value.0 c.args.i c.requires.commits_value.2 r.result r.ensures.0 r.ensures.1 has n.result n.ensures 0 0 in
    let nf = row_normal t c.requires.commits_value.0 c.args.i c.requires.commits_value.2 in
    let many = length_windows n.result (r.result + 79 + 1) t in record { commits_value = (c.requires.commits_value.0, c.requires.commits_value.1, c.requires.commits_value.3); n_in_bounds = (omega arith, none_masked n.result _ (sym c.none_left.ensures ∙ c.if-none_left.false), omega arith, form_rising us (ap normal_form (sym q) ∙ nf)) }

pub returns : goal.returns
returns c = let t = c.args.commits.now in
    let has = sym c.has_segment_at.ensures ∙ c.if-not-has_segment_at.false in
    let r = c.row-at in
    let n = c.count_read-n in
    let us = windows_at n.result (r.result + 79 + 1) t in
    let q : pages_of (commit_at t c.args.i).segment ≡ us = stand t c.requires.commits_value.0 c.args.i c.requires.commits_value.2 r.result r.ensures.0 r.ensures.1 has n.result n.ensures 0 0 in
    let nf = row_normal t c.requires.commits_value.0 c.args.i c.requires.commits_value.2 in
    let many = length_windows n.result (r.result + 79 + 1) t in
    let whole = made_asked c.args.count.0 (before c.args.k (commits_at t (places_in c.args.path.runs))) (commit_at t c.args.i) nf us q n.result many c.args.notes.now _ _ _ (search rules) (search rules) c.sort_out.ensures.as_sorted c.sort_out.ensures.small.0 c.sort_out.ensures.small.1 c.requires.known _ c.ask_rest.ensures.left_after c.ask_rest.result c.ask_rest.ensures.value in
    record { value = whole.0; left_after = whole.1.0; known_2 = whole.1.1 }
