-- A page set in bytes, and the set by value that its windows make.
use Rattle.std.specs.Prelude.{ℕ, ◌-◌, List, ◌++◌, map, length, replicate}
use Rattle.table.specs.Table.{runs}
use Rattle.pageset.specs.declared.PageSet.{PageSet}
use Rattle.pageset.specs.Sets.{zero_window}
use Rattle.rules.specs.Records.{Pages}
use Rattle.layout.specs.Codecs.{Codec}
use Rattle.layout.specs.Values.{window_bytes}

-- the n windows that stand at a place
unfoldable pub windows_at : ℕ → ℕ → List ℕ → Pages
windows_at n at s = map window_bytes.read (runs n 12 at s)

-- the set of these windows; the places past them are zero
abbrev pub set_laid : Pages → PageSet
set_laid ws = record { len = length ws; windows = ws ++ replicate (32 - length ws) zero_window }
