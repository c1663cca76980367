-- The frames passed end below the page, so the walk from here on finds what the whole walk finds; the sizes that are left fit. Assumes nothing.
use Rattle.std.proofs.Common.{◌≡◌, ◌+◌, ◌≤◌, true, length, sym, refl, ap, ◌∙◌, arith}
use Rattle.basics.specs.Numbers.{last_lsn}
use Rattle.pageset.specs.Sets.{normal}
use Rattle.frames.specs.Places.{place_says}
use Rattle.commit.proofs.RecordLaws.{long_of}
use Rattle.frames.proofs.PlaceLaws.{start_least, run_part_lem, no_part, run_end, run_here, run_past, total_here, ok_normal, ok_few, ok_sum}
use Rattle.frames.proofs.locate.Goals as goal

pub contains-requires : goal.contains-requires
contains-requires c =
    let ok : normal c.args.s.pages ≡ true = ok_normal c.args.s c.requires in
    ok

pub returns-then-not-contains : goal.returns-then-not-contains
returns-then-not-contains c = record { says = no_part c.args.s c.args.page.0 (sym c.contains.ensures ∙ c.if-not-contains.true); placed = tt }

pub before_first-below-requires : goal.before_first-below-requires
before_first-below-requires c =
    let ok : normal c.args.s.pages ≡ true = ok_normal c.args.s c.requires in
    ok

pub loop-i-init : goal.loop-i-init
unfolding last_lsn
loop-i-init c =
    let ok : normal c.args.s.pages ≡ true = ok_normal c.args.s c.requires in
    let m = sym c.contains.ensures ∙ c.if-not-contains.false in
    (omega (arith, c.before_first-below.ensures, start_least c.args.s.pages (ok) c.args.page.0 m), omega (arith, ok_sum c.args.s c.requires), refl)

pub offset_bounds-fs-i : goal.offset_bounds-fs-i
offset_bounds-fs-i c = omega (arith, ok_few c.args.s c.requires)

pub bounds-fs-i : goal.bounds-fs-i
bounds-fs-i c = omega (arith, ok_few c.args.s c.requires)

pub overflow_add-end : goal.overflow_add-end
overflow_add-end c =
    let long : c.args.s.len ≤ length c.args.s.frames = omega (arith, long_of c.args.s _ c.well_formed.0, ok_few c.args.s c.requires) in
    let d = c.loop-i in
    omega (arith, total_here c.args.s (long) d.i c.args.page.0 d.start (d.below + 1) (omega arith))

pub overflow_add-first : goal.overflow_add-first
overflow_add-first c = omega arith

pub returns-then-p-f : goal.returns-then-p-f
returns-then-p-f c =
    let ok : normal c.args.s.pages ≡ true = ok_normal c.args.s c.requires in
    let long : c.args.s.len ≤ length c.args.s.frames = omega (arith, long_of c.args.s _ c.well_formed.0, ok_few c.args.s c.requires) in
    let d = c.loop-i in
    let m = sym c.contains.ensures ∙ c.if-not-contains.false in
    let e = sym (run_here c.args.s (long) d.i c.args.page.0 d.start (d.below + 1) (omega arith) c.if-p-f.true) ∙ d.invariant.2 in record { says = ap (place_says c.args.s) e ∙ run_part_lem c.args.s c.args.page.0 _ (ok) m c.before_first-below.ensures (omega arith); placed = omega arith }

pub loop-i-preserved : goal.loop-i-preserved
loop-i-preserved c =
    let long : c.args.s.len ≤ length c.args.s.frames = omega (arith, long_of c.args.s _ c.well_formed.0, ok_few c.args.s c.requires) in
    let d = c.loop-i in
    let z = total_here c.args.s (long) d.i c.args.page.0 d.start (d.below + 1) (omega arith) in
    (omega arith, omega (arith, z), sym (run_past c.args.s (long) d.i c.args.page.0 d.start (d.below + 1) (omega arith) (omega arith)) ∙ d.invariant.2)

pub returns : goal.returns
returns c =
    let ok : normal c.args.s.pages ≡ true = ok_normal c.args.s c.requires in
    let long : c.args.s.len ≤ length c.args.s.frames = omega (arith, long_of c.args.s _ c.well_formed.0, ok_few c.args.s c.requires) in
    let d = c.loop-i in
    let m = sym c.contains.ensures ∙ c.if-not-contains.false in
    let e = sym (run_end c.args.s (long) d.i c.args.page.0 d.start (d.below + 1) (omega arith)) ∙ d.invariant.2 in record { says = ap (place_says c.args.s) e ∙ run_part_lem c.args.s c.args.page.0 _ (ok) m c.before_first-below.ensures (omega arith); placed = tt }
