-- The rows that a save adds to the presence table.
use Rattle.std.specs.Prelude.{ℕ, List, map, reverse}
use Rattle.table.specs.Table.{join}
use Rattle.rules.specs.Records.{Id, Pages}
use Rattle.rules.specs.Pages.{pages_in}
use Rattle.layout.specs.Records.{present_bytes}
use Rattle.presence.specs.Pages.{page_of}

-- the rows of a segment's pages
abbrev pub page_rows : Id → List ℕ → List (List ℕ)
page_rows sid ps = map present_bytes.spell (map (page_of sid) ps)

-- the bytes of the rows of all pages of a set, last page first: pages go down in a key order
abbrev pub filled : Id → Pages → List ℕ
filled sid s = join (page_rows sid (reverse (pages_in s)))
