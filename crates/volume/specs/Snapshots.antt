-- What a snapshot of the code says, when it is in form, and the value that an answer of the rules is laid out as.
use Rattle.std.specs.Prelude.{ℕ, ◌+◌, ◌-◌, Bool, true, ◌&&◌, List, [], ◌∷◌, ◌++◌, map, length, take, drop, replicate, ◌==◌, nat_le, slice_set, Option as Maybe, Some, None, Result, Ok, Err}
use Rattle.std.proofs.Math.Option.{Option, none, some}
use Rattle.octets.specs.Order.{is_equal, lex}
use Rattle.basics.specs.Answers.{Answer, refused, done, ask, ◌>>=◌, ◌>>◌}
use Rattle.basics.specs.Refusals.{number_of}
use Rattle.basics.specs.declared.logref.LogRef.{LogRef}
use Rattle.basics.specs.declared.refusal.Refusal.{Refusal}
use Rattle.rules.specs.Lists.{all}
use Rattle.rules.specs.Records as rules
use Rattle.rules.specs.Arguments.{range_lsns, range_order, snapshot_lsns, snapshot_order, snapshot_append}
use Rattle.volume.specs.declared.snapshot.LogRange.{LogRange}
use Rattle.volume.specs.declared.snapshot.Snapshot.{Snapshot}

-- a range
abbrev pub range_says : LogRange → rules.Range
range_says r = record { log = r.log; start = r.start.0; end = r.end.0 }

-- a snapshot: its first `len` ranges, and all of them where `len` is above their number
abbrev pub snapshot_says : Snapshot → rules.Snapshot
snapshot_says s = record { path = map range_says (take s.len s.path); count = s.count.0 }

-- all of a range is zero
abbrev pub is_zero_range : LogRange → Bool
is_zero_range r = r.start.0 == 0 && r.end.0 == 0 && is_equal (lex r.log (replicate 16 0))

-- a snapshot's form: at most 8 ranges, and zero past them
unfoldable pub in_form : Snapshot → Bool
in_form s = nat_le s.len 8 && all is_zero_range (drop s.len s.path)

-- a range as it is laid out, and the range that is all zero
abbrev pub laid_range : rules.Range → LogRange
laid_range r = record { log = r.log; start = record { 0 = r.start }; end = record { 0 = r.end } }

abbrev pub no_range : LogRange
no_range = record { log = replicate 16 0; start = record { 0 = 0 }; end = record { 0 = 0 } }

-- a snapshot as it is laid out: its ranges, and zero past them
unfoldable pub laid : rules.Snapshot → Snapshot
laid s = record {
  len = length s.path;
  path = map laid_range s.path ++ replicate (8 - length s.path) no_range;
  count = record { 0 = s.count };
}

-- the answer that a call's is: document 01's number, or a snapshot of the code
abbrev pub answer_says : Result Snapshot Refusal → Answer Snapshot
answer_says (Err r) = refused (number_of r)
answer_says (Ok s) = done s

-- a refusal, or a snapshot in form
abbrev pub answer_form : Result Snapshot Refusal → Bool
answer_form (Err r) = true
answer_form (Ok s) = in_form s

-- a rule's answer with its snapshot as it is laid out
abbrev pub laid_answer : Answer rules.Snapshot → Answer Snapshot
laid_answer (refused n) = refused n
laid_answer (done s) = done (laid s)

-- a range more at the place after the last
abbrev pub with_range : Snapshot → LogRange → Snapshot
with_range s r = record { len = s.len + 1; path = slice_set s.path s.len r; count = s.count }

-- a range more: the rule on what the snapshot says, and 3 in its turn for a snapshot that is not in form
unfoldable pub appended : Snapshot → LogRange → Answer rules.Snapshot
appended s r = do
  ask (snapshot_lsns (snapshot_says s) && range_lsns (range_says r)) 1
  ask (snapshot_order (snapshot_says s) && range_order (range_says r)) 2
  ask (in_form s) 3
  snapshot_append (snapshot_says s) (range_says r)

-- the log and the end of the path's first range, or nothing
abbrev pub first_end : List rules.Range → Option (List ℕ × ℕ)
first_end [] = none
first_end (r ∷ rs) = some (r.log, r.end)

abbrev pub head_of : rules.Snapshot → Option (List ℕ × ℕ)
head_of s = first_end s.path

-- a log and its LSN, or nothing
abbrev pub head_says : Maybe LogRef → Option (List ℕ × ℕ)
head_says None = none
head_says (Some h) = some (h.log, h.lsn.0)

-- no range is on the path
abbrev pub is_empty_path : rules.Snapshot → Bool
is_empty_path s = length s.path == 0
