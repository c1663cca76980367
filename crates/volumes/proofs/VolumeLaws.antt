-- What the code of the table of volumes makes: a key's bytes, a row's bytes; and that room freed by a removal is used again. Lookups and stores are those of every
-- table (crate rows), at the layout of volumes.
use Rattle.std.proofs.Common.{◌≡◌, ℕ, true, List, ◌∷◌, length, replicate, ◌∙◌}
use mathlib.Core.Option.{some}
use Rattle.octets.specs.Bytes.{put}
use Rattle.octets.proofs.Places.{put_behind_zero}
use Rattle.basics.specs.Orders.{bytes}
use Rattle.rules.specs.Records.{Id, Volume, volume_key}
use Rattle.rules.specs.Forms.{volume_form}
use Rattle.rules.specs.Tables.{fits, store, remove, same_id, get_volume}
use Rattle.layout.specs.Records.{volume_bytes}
use Rattle.layout.specs.Tables.{volumes_in, volumes_ok, laid_over}
use Rattle.rows.proofs.Spots.{freed_room}
use Rattle.rows.proofs.Tables.{OkId, volumes, volume_key_lem}

-- the key of an identifier
pub key_made : (vid key : List ℕ) → length vid ≡ 16 → key ≡ put 1 vid (replicate 17 0) → key ≡ 0 ∷ vid
key_made vid key l e = e ∙ put_behind_zero 16 vid l

-- ---- room freed by a removal is used again

-- a volume that is stored goes; then any one can be stored
pub room_used_again : (t : List ℕ) → volumes_ok t ≡ true → (vid : Id) → OkId vid → (v : Volume) → get_volume (volumes_in t) vid ≡ some v → (w : Volume) → volume_form w ≡ true
    → let u = laid_over volume_bytes (remove (λ r. same_id vid r.vid) (volumes_in t)) t in (volumes_ok u ≡ true) × (fits (store volume_key bytes w (volumes_in u)) ≡ true)
room_used_again t ok vid l v e w f = freed_room volumes t ok (0 ∷ vid) vid (volume_key_lem vid l) v e w f
