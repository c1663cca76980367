-- What the code's answers say: 24, or the value.
use Rattle.std.specs.Prelude.{◌≡◌, ℕ, ◌≤◌, Bool, true, false, cond, ◌&&◌, List, [], length, nat_le}
use Rattle.basics.specs.Answers.{Answer, refused, done, ◌>>=◌}
use Rattle.callline.specs.declared.Line.{Line}
use Rattle.callline.specs.declared.Line.TheVariants as Line
use Rattle.callline.specs.declared.fields.Cursor.{Cursor}
use Rattle.callline.specs.declared.fields.Field.{Field}
use Rattle.callline.specs.declared.fields.Place.{Place}
use Rattle.callline.specs.declared.values.Number.{Number}
use Rattle.callline.specs.declared.values.Number.TheVariants as Number
use Rattle.callline.specs.declared.values.Pages.{Pages}
use Rattle.callline.specs.declared.values.Pages.TheVariants as Pages
use Rattle.callline.specs.Texts.{Text, pieces_after, between}
use Rattle.callline.specs.Values.{Range, malformed, pages_of}
use Rattle.callline.specs.Lines.{Call, Open, Snap, Save, Find, Fetch, Pull, last_slot}

abbrev pub number_says : Number → Answer ℕ
number_says Number.Malformed = refused malformed
number_says (Number.Is n) = done n

abbrev pub range_says : Pages → Answer Range
range_says Pages.Malformed = refused malformed
range_says (Pages.From a b) = done (record { first = a; last = b })

-- whether an answer is no refusal
abbrev pub is_done : {A : Type 0} → Answer A → Bool
is_done (refused n) = false
is_done (done a) = true

-- the list of an answer, and the empty list of a refusal
abbrev pub list_of : {A : Type 0} → Answer (List A) → List A
list_of (refused n) = []
list_of (done l) = l

-- the ranges that a text in the form names
abbrev pub ranges_in : Text → List Range
ranges_in t = list_of (pages_of t)

-- a value and the words that follow
abbrev pub both : {A : Type 0} → A → List Text → Answer (A × List Text)
both a ws = done (a, ws)

-- the words after a cursor
abbrev pub cursor_says : Text → Cursor → Answer (List Text)
cursor_says line c = cond c.good (done (pieces_after 32 line c.end)) (refused malformed)

-- what follows a cursor: 24 where the line is not in the form, else what the words after it give
abbrev pub read_on : {B : Type 0} → Text → Cursor → (List Text → Answer B) → Answer B
read_on line c then = cursor_says line c >>= then

-- the words are at their end
abbrev pub is_over : Text → Cursor → Bool
is_over line c = c.good && nat_le (length line) c.end

-- a number, and the words after it
abbrev pub field_says : Text → Field → Answer (ℕ × List Text)
field_says line f = cond f.next.good (both f.value (pieces_after 32 line f.next.end)) (refused malformed)

-- the text at a place, and the words after it
abbrev pub place_says : Text → Place → Answer (Text × List Text)
place_says line p = cond p.good (both (between p.from p.to line) (pieces_after 32 line p.to)) (refused malformed)

-- the ranges of the text at a place, and the words after it
abbrev pub pages_says : Text → Place → Answer (List Range × List Text)
pages_says line p = cond p.good (both (ranges_in (between p.from p.to line)) (pieces_after 32 line p.to)) (refused malformed)

-- 24, or the call with its values; pages are those of the text at their place in the line
abbrev pub line_says : Text → Line → Answer Call
line_says line Line.Malformed = refused malformed
line_says line (Line.Open v l r) = done (Open v l r)
line_says line (Line.Snap v s) = done (Snap v s)
line_says line (Line.Save v s c i from to) = done (Save v s c i (ranges_in (between from to line)))
line_says line (Line.Find s p) = done (Find s p)
line_says line (Line.Fetch g n c i from to) = done (Fetch g n c i (ranges_in (between from to line)))
line_says line (Line.Pull v) = done (Pull v)

-- pages stand at their place in the form: from one place of the line up to another
abbrev pub InForm : Text → ℕ → ℕ → Type 0
InForm line from to = (from ≤ to) × (to ≤ length line) × (is_done (pages_of (between from to line)) ≡ true)

-- so they do in every answer that has pages; and a slot is one of 0 to 3
abbrev pub Placed : Text → Line → Type 0
Placed line Line.Malformed = Unit {0}
Placed line (Line.Open v l r) = Unit {0}
Placed line (Line.Snap v s) = s ≤ last_slot
Placed line (Line.Save v s c i from to) = (s ≤ last_slot) × InForm line from to
Placed line (Line.Find s p) = s ≤ last_slot
Placed line (Line.Fetch g n c i from to) = InForm line from to
Placed line (Line.Pull v) = Unit {0}
