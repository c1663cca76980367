-- A snapshot that is an argument in bytes. 1 and 2 look at the ranges that it spells, at most 8; 3 asks its size and its form. Of a slice of another length nothing else is looked at.
use Rattle.std.specs.Prelude.{ℕ, Bool, cond, ◌&&◌, List, [], length, ◌==◌, Result, Ok, Err}
use Rattle.std.proofs.Math.Option.{Option}
use Rattle.basics.specs.Answers.{Answer, done, ask, ◌>>=◌, ◌>>◌}
use Rattle.basics.specs.Refusals.{number_of}
use Rattle.basics.specs.declared.refusal.Refusal.{Refusal}
use Rattle.rules.specs.Records.{Range, Snapshot}
use Rattle.rules.specs.Arguments.{range_lsns, range_order, snapshot_lsns, snapshot_order, snapshot_append}
use Rattle.volume.specs.declared.snapshot.Snapshot as declared
use Rattle.volume.specs.Snapshots.{snapshot_says, head_of}
use Rattle.layout.specs.Codecs.{spelled}
use Rattle.layout.specs.Values.{snapshot_bytes}
use Rattle.arguments.specs.declared.Reply.{Reply}
use Rattle.arguments.specs.Replies.{none_under, value}
use Rattle.layout.specs.Lent.{sized}

-- the snapshot that bytes spell, and one of no range where their length is another
unfoldable pub snapshot_in : List ℕ → Snapshot
snapshot_in b = cond (length b == snapshot_bytes.size) (snapshot_bytes.read b) (record { path = []; count = 0 })

-- bytes of a snapshot's size, and in its form
unfoldable pub snapshot_formed : List ℕ → Bool
snapshot_formed b = length b == snapshot_bytes.size && spelled snapshot_bytes b

-- a range more
unfoldable pub append_in : List ℕ → Range → Answer Snapshot
append_in b r = do
  ask (snapshot_lsns (snapshot_in b) && range_lsns r) 1
  ask (snapshot_order (snapshot_in b) && range_order r) 2
  ask (snapshot_formed b) 3
  snapshot_append (snapshot_in b) r

-- the head, or nothing
unfoldable pub head_in : List ℕ → Answer (Option (List ℕ × ℕ))
head_in b = do
  ask (snapshot_lsns (snapshot_in b)) 1
  ask (snapshot_order (snapshot_in b)) 2
  ask (snapshot_formed b) 3
  done (head_of (snapshot_in b))

-- a snapshot's bytes in what is lent for them, after the rule's own numbers
abbrev pub snapshot_left : List ℕ → Answer Snapshot → Reply × List ℕ
snapshot_left was q = value snapshot_bytes.spell was (sized snapshot_bytes.size was q)

-- an answer by value, as it is put
abbrev pub snapshot_put : List ℕ → Result declared.Snapshot Refusal → Reply × List ℕ
snapshot_put was (Err r) = (none_under (number_of r), was)
snapshot_put was (Ok s) = snapshot_left was (done (snapshot_says s))

-- the number of a call whose snapshot is not in form: its own 1 or 2, else 3
abbrev pub or_three : ℕ → ℕ
or_three n = cond (n == 0) 3 n
