-- A page of a segment as a record of the presence table.
use Rattle.std.specs.Prelude.{ℕ, Bool}
use Rattle.rules.specs.Records.{Id, Present}
use Rattle.rules.specs.Tables.{same_id}

-- the record of a page
abbrev pub page_of : Id → ℕ → Present
page_of sid page = record { sid = sid; page = page }

-- a record of a segment
abbrev pub of_segment : Id → Present → Bool
of_segment sid p = same_id sid p.sid
