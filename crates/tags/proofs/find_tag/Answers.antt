-- The spot of the key is the place of the name: the law `spot_found`.
use Rattle.std.proofs.Common.{ℕ, List, ap, ◌∙◌, arith, rules}
use Rattle.table.specs.Records.{spot}
use Rattle.table.specs.Table.{recs}
use Rattle.rows.proofs.Rows.{formed_well}
use Rattle.rows.proofs.Spots.{spot_found}
use Rattle.rows.proofs.Tables.{tags, tag_key_lem}
use Rattle.tags.specs.Lookups.{key_bytes}
use Rattle.tags.proofs.RowLaws.{name_long}
use Rattle.tags.proofs.find_tag.Goals as goal

pub find-requires : goal.find-requires
find-requires c = record { stride_nonzero = (omega arith, omega arith, search rules); t_value = formed_well tags c.args.t.now c.requires.0 }

pub returns : goal.returns
returns c = spot_found tags c.args.t.now c.requires.0 (key_bytes.spell c.args.name.now) c.args.name.now (tag_key_lem c.args.name.now (name_long c.args.name.now c.requires.1).1) _ (c.find.ensures ∙ ap (λ (k : List ℕ). spot 34 k (recs 50 c.args.t.now)) c.tag_key-key.ensures)
