-- Open on lent bytes: what was asked and the spares as the code holds them, the new volume, and what a plan decides.
use Rattle.std.specs.Prelude.{◌≡◌, ℕ, ◌<◌, Bool, true, false, ◌&&◌, List, length, ◌==◌, nat_lt, Result, Ok}
use Rattle.std.proofs.Math.Option.{Option, none, some}
use Rattle.basics.specs.Answers.{Answer, refused, done, ask, ◌>>=◌, ◌>>◌}
use Rattle.basics.specs.Orders.{bytes}
use Rattle.rules.specs.Records.{Id, Commit, Volume, volume_key}
use Rattle.rules.specs.Tables.{Table, fits, store, latest_lsn}
use Rattle.rules.specs.Open.{Ids, Asked, or_spare, sync_at, vid_free, log_free, open_volume}
use Rattle.table.specs.Table.{count_of}
use Rattle.layout.specs.Codecs.{Codec}
use Rattle.layout.specs.Tables.{volumes_in}
use Rattle.rows.specs.Lookups.{nth, at_spot}
use Rattle.opencalls.specs.declared.Wanted.{Wanted}
use Rattle.opencalls.specs.declared.Opening.{Opening}
use Rattle.opencalls.specs.declared.Opening.TheVariants as Opening

-- an identifier, if it was asked
abbrev pub asked_by : Bool → Id → Option Id
asked_by true id = some id
asked_by false id = none

-- what was asked
abbrev pub asked_says : Wanted → Option Id
asked_says w = asked_by w.asked w.id

-- a flag 0 is spare, any other asked
abbrev pub wanted_by : ℕ → Id → Id → Wanted
wanted_by flag id spare = record { asked = nat_lt 0 flag; id = id; spare = spare }

-- of the three
abbrev pub asked : Wanted → Wanted → Wanted → Asked
asked vid local remote = record { vid = asked_says vid; local = asked_says local; remote = asked_says remote }

-- and their spares
abbrev pub spares : Wanted → Wanted → Wanted → Ids
spares vid local remote = record { vid = vid.spare; local = local.spare; remote = remote.spare }

-- the bytes lent for the volume are 117 (3), then the rule
unfoldable pub open_in : Table Volume → Table Commit → Asked → Ids → List ℕ → Answer (Volume × Table Volume)
open_in vs cs a x out = do
  ask (length out == 117) 3
  open_volume vs cs a x

-- the bytes lent for a record after the call: as found on a refusal, else the answer's record
unfoldable pub out_after : {R A : Type 0} → Codec R → (A → R) → List ℕ → Answer A → List ℕ
out_after c value out (refused n) = out
out_after c value out (done a) = c.spell (value a)

-- the volume that is made
abbrev pub new_volume : Table Commit → Asked → Ids → Volume
new_volume cs a x = record { vid = or_spare a.vid x.vid; local = or_spare a.local x.local; remote = or_spare a.remote x.remote; sync = sync_at (latest_lsn cs (or_spare a.remote x.remote)); pending = none }

-- 5: what stands in is free
abbrev pub all_free : Table Volume → Table Commit → Asked → Ids → Bool
all_free vs cs a x =
    vid_free vs a.vid x.vid && log_free vs cs a.local x.local (or_spare a.remote x.remote) && log_free vs cs a.remote x.remote (or_spare a.local x.local)

-- o is where the asked volume v stands; a gap where there is none
pub record AskedAt (t : List ℕ) (v : Option Volume) (o : Result ℕ ℕ) : Type 0 where
  pub says : at_spot o (volumes_in t).rows ≡ v
  pub inside : (i : ℕ) → o ≡ Ok i → i < count_of t

-- the plan is the rule's answer r, past 20: a number, the stored volume at a place, or the new one
abbrev pub Planned : List ℕ → Table Commit → Asked → Ids → Answer (Volume × Table Volume) → Opening → Type 0
Planned t cs a x r (Opening.Refused n) = r ≡ refused n
Planned t cs a x r (Opening.Stored i) = (i < count_of t) × ((v : Volume) → nth i (volumes_in t).rows ≡ some v → r ≡ done (v, volumes_in t))
Planned t cs a x r Opening.New =
    (fits (store volume_key bytes (new_volume cs a x) (volumes_in t)) ≡ true) × (r ≡ done (new_volume cs a x, store volume_key bytes (new_volume cs a x) (volumes_in t)))
