-- Room freed by a removal is used again: a tag that is stored goes, and then any other can be stored. Lookups and stores are those of every table (crate rows), at
-- the layout of tags.
use Rattle.std.proofs.Common.{◌≡◌, ℕ, true, List}
use mathlib.Core.Option.{some}
use Rattle.basics.specs.Orders.{bytes}
use Rattle.rules.specs.Records.{Name, Tag, tag_key}
use Rattle.rules.specs.Forms.{tag_form}
use Rattle.rules.specs.Tables.{fits, store, remove, same_id, get_tag}
use Rattle.layout.specs.Records.{tag_bytes}
use Rattle.layout.specs.Tables.{tags_in, tags_ok, laid_over}
use Rattle.rows.proofs.Spots.{freed_room}
use Rattle.rows.proofs.Tables.{OkName, tags, tag_key_lem}
use Rattle.tags.specs.Lookups.{key_bytes}

pub room_used_again : (t : List ℕ) → tags_ok t ≡ true → (name : Name) → OkName name → (g : Tag) → get_tag (tags_in t) name ≡ some g → (w : Tag) → tag_form w ≡ true
    → let u = laid_over tag_bytes (remove (λ r. same_id name r.name) (tags_in t)) t in (tags_ok u ≡ true) × (fits (store tag_key bytes w (tags_in u)) ≡ true)
room_used_again t ok name l g e w f = freed_room tags t ok (key_bytes.spell name) name (tag_key_lem name l) g e w f
