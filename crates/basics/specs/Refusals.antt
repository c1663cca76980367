-- Document 01's refusals by their numbers.
use Rattle.std.specs.Prelude.{ℕ, Result, Ok, Err}
use Rattle.basics.specs.declared.refusal.Refusal.{Refusal}
use Rattle.basics.specs.declared.refusal.Refusal.TheVariants as Refusal

-- document 01's number
abbrev pub number_of : Refusal → ℕ
number_of Refusal.Zero = 1
number_of Refusal.Reversed = 2
number_of Refusal.Form = 3
number_of Refusal.NoVolume = 4
number_of Refusal.InUse = 5
number_of Refusal.OtherRemote = 6
number_of Refusal.NotLatest = 7
number_of Refusal.Diverged = 8
number_of Refusal.Pending = 9
number_of Refusal.NonePending = 10
number_of Refusal.NotAboveWatermark = 11
number_of Refusal.NotNext = 12
number_of Refusal.ZeroHash = 13
number_of Refusal.NotThePending = 14
number_of Refusal.OtherHash = 15
number_of Refusal.BaseWithoutHead = 16
number_of Refusal.RemoteOlder = 17
number_of Refusal.NoLsnLeft = 18
number_of Refusal.NoRoom = 19
number_of Refusal.TableForm = 20
number_of Refusal.NoCommit = 21
number_of Refusal.TooWide = 22
number_of Refusal.PastSegment = 23
number_of Refusal.Line = 24

-- the number that a caller gets back: 0 where the call is not refused
abbrev pub code_of : {A : Type 0} → Result A Refusal → ℕ
code_of (Ok a) = 0
code_of (Err r) = number_of r
