-- What is left of sync once its volume is known, as the code decides it.
use Rattle.std.specs.Prelude.{◌≡◌, Bool, true, Option, Some, None, Result, Ok, Err}
use Rattle.basics.specs.Answers.{Answer, refused, done, ◌>>=◌}
use Rattle.basics.specs.Orders.{bytes}
use Rattle.rules.specs.Records.{Commit, Volume, volume_key}
use Rattle.rules.specs.Forms.{lsn_form}
use Rattle.rules.specs.Tables.{Table, store, latest_lsn}
use Rattle.rules.specs.Snapshots.{remote_of}
use Rattle.rules.specs.Sync.{changed, moved_volume, sync_by}
use Rattle.basics.specs.Refusals.{number_of}
use Rattle.basics.specs.declared.lsn.Lsn.{Lsn}
use Rattle.basics.specs.declared.refusal.Refusal.{Refusal}

-- sync past 20 and 4: the rest of the rule, on the volume that was found
abbrev pub sync_found : Table Volume → Table Commit → Volume → Answer (Table Volume)
sync_found vs cs v = do
  there ← changed (remote_of v.sync) (latest_lsn cs v.remote)
  sync_by vs cs v there

-- the answer that a decision on the volume v of the table vs is
abbrev pub pull_says : Table Volume → Volume → Result (Option Lsn) Refusal → Answer (Table Volume)
pull_says vs v (Err r) = refused (number_of r)
pull_says vs v (Ok None) = done vs
pull_says vs v (Ok (Some n)) = done (store volume_key bytes (moved_volume v n.0) vs)

-- an LSN to move to is 1 to 2^64-1
abbrev pub pull_form : Result (Option Lsn) Refusal → Bool
pull_form (Err r) = true
pull_form (Ok None) = true
pull_form (Ok (Some n)) = lsn_form n.0

-- p is what the rule answers, whatever table of volumes v stands in
pub record Pulls (rule : Table Volume → Answer (Table Volume)) (v : Volume) (p : Result (Option Lsn) Refusal) : Type 0 where
  pub says : (vs : Table Volume) → pull_says vs v p ≡ rule vs
  pub form : pull_form p ≡ true
