-- "A refusal gives its number, no value, and leaves all lent memory as found, save Recover's 8."
use Rattle.std.specs.Prelude.{◌≡◌, ℕ, List, ◌≢◌}
use Rattle.std.proofs.Math.Option.{none}
use Rattle.basics.specs.Orders.{bytes}
use Rattle.rules.specs.Records.{Id, volume_key}
use Rattle.rules.specs.Tables.{store}
use Rattle.rules.specs.Push.{with_pending}
use Rattle.rules.specs.Promises.{Diverged}
use Rattle.layout.specs.Records.{volume_bytes}
use Rattle.layout.specs.Tables.{volumes_in, laid_over}
use Rattle.arguments.specs.declared.Reply.{Reply}
use Rattle.writecalls.specs.Written.{logs_in}

-- r is the reply, `was` something that is lent to be written, and `left` the same afterwards: a refusal has no value, and leaves it as found
abbrev pub AsFound : {A : Type 0} → Reply → A → A → Type 0
AsFound r was left = (r.code ≢ 0) → (r.found ≡ 0) × (left ≡ was)

-- Recover's 8: no value; a commit is pending, and at its remote LSN one is stored with another hash or none; the volume is there without its pending commit, and all else is as found
pub record Drops (volumes commits checkpoints index : List ℕ) (vid : Id) (r : Reply) (volumes' commits' checkpoints' index' : List ℕ) : Type 0 where
  pub no_value : r.found ≡ 0
  pub diverged : Diverged (volumes_in volumes) (logs_in commits checkpoints index) vid
  pub dropped : volumes' ≡ laid_over volume_bytes (store volume_key bytes (with_pending diverged.volume none) (volumes_in volumes)) volumes
  pub others : (commits' ≡ commits) × ((checkpoints' ≡ checkpoints) × (index' ≡ index))
