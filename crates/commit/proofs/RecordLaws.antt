-- What the types of the records tell, and that the promise of a range determines the answer. Assumes nothing.
use Rattle.std.proofs.Common.{◌≡◌, true, List, length, sym, refl, ap, ◌∙◌, Option as Maybe, Some, None, Result, Ok, Err}
use mathlib.Core.Option.{Option, some}
use mir.Val.{Val}
use denote.Laws.{Is}
use denote.Struct.Declared.{row}
use Rattle.basics.specs.Answers.{Answer, done}
use Rattle.basics.specs.Refusals.{number_of}
use Rattle.basics.specs.declared.refusal.Refusal.{Refusal}
use Rattle.basics.proofs.RefusalLaws.{one_refusal}
use Rattle.pageset.proofs.FormLaws.{normal_fact}
use Rattle.pageset.proofs.WalkLaws.{tidy_known}
use Rattle.rules.specs.Frames.{Part}
use Rattle.commit.specs.declared.SegmentIdx.{SegmentIdx}
use Rattle.commit.specs.declared.SegmentRange.{SegmentRange}
use Rattle.commit.specs.Says.{range_says, IsRange, answer_says, answer_form, Tells}
use Rattle.commit.specs.contracts.SegmentIdx.{the_type}

-- a segment has sixteen places for frames
pub long_of : (s : SegmentIdx) (vs : List Val) → Is (row the_type) s vs → length s.frames ≡ 16
long_of s vs g = g.1.1.1.1.1.0.1.0.1

-- a range that is found
pub tells_found : (f : Part) (x : SegmentRange) → IsRange f x → Tells (Ok (Some x)) (done (some f))
tells_found f x h = record { says = ap (λ (p : Part). done (some p)) h.says; form = h.normal }

-- ---- the promise determines the answer

pub one_range : (f : Part) (x y : SegmentRange) → IsRange f x → IsRange f y → x ≡ y
one_range f x y h k =
    let e = h.says ∙ sym k.says in
    let s = tidy_known x.pages y.pages (normal_fact x.pages h.normal).tidy (normal_fact y.pages k.normal).tidy (ap (λ (p : Part). p.pages) e) in
    λ i. record { sid = ap (λ (p : Part). p.sid) e i; start = ap (λ (p : Part). p.start) e i; end = ap (λ (p : Part). p.end) e i; pages = s i }

-- two answers that say the same
one_saying : (x y : Result (Maybe SegmentRange) Refusal) → answer_says x ≡ answer_says y → answer_form x ≡ true → answer_form y ≡ true → x ≡ y
one_saying (Err n) (Err m) e h k = let p : number_of n ≡ number_of m = cc in ap (λ (r : Refusal). Err r) (one_refusal n m p)
one_saying (Err n) (Ok None) e h k = cc
one_saying (Err n) (Ok (Some b)) e h k = cc
one_saying (Ok None) (Err m) e h k = cc
one_saying (Ok None) (Ok None) e h k = refl
one_saying (Ok None) (Ok (Some b)) e h k = cc
one_saying (Ok (Some a)) (Err m) e h k = cc
one_saying (Ok (Some a)) (Ok None) e h k = cc
one_saying (Ok (Some a)) (Ok (Some b)) e h k =
    let p : range_says a ≡ range_says b = cc in
    ap (λ (r : SegmentRange). Ok (Some r)) (one_range (range_says b) a b (record { says = p; normal = h }) (record { says = refl; normal = k }))

pub one_answer : (q : Answer (Option Part)) (x y : Result (Maybe SegmentRange) Refusal) → Tells x q → Tells y q → x ≡ y
one_answer q x y h k = one_saying x y (h.says ∙ sym k.says) h.form k.form
